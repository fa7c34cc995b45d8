-- The stream: its bytes have eight bits, and how a slice comes to be filled by it, step by step.
use Rattle.std.proofs.Common.{◌≡◌, ℕ, zero, suc, ◌+◌, ◌-◌, ◌^◌, ◌<◌, ◌≤◌, List, [], ◌∷◌, ◌++◌, length, take, set, sym, refl, ap, ◌∙◌, append_assoc, append-nil, add-one, arith, length-set, take_all, take-suc-set}
use Rattle.packet.specs.Packet.{Bytes}
use Rattle.maker.specs.Stream.{next_state, byte_of, yielded, state_after}

next_state_lt : (x : ℕ) → next_state x < 2 ^ 32
unfolding next_state
next_state_lt x = omega arith

byte_of_lt : (x : ℕ) → x < 2 ^ 32 → byte_of x < 256
unfolding byte_of
byte_of_lt x h = omega arith

pub yielded-length : (k x : ℕ) → length (yielded k x) ≡ k
unfolding yielded
yielded-length zero x = refl
yielded-length (suc k) x = ap suc (yielded-length k (next_state x))

pub yielded_bytes : (k x : ℕ) → Bytes (yielded k x)
unfolding yielded
yielded_bytes zero x i = omega arith
yielded_bytes (suc k) x zero = byte_of_lt (next_state x) (next_state_lt x)
yielded_bytes (suc k) x (suc i) = yielded_bytes k (next_state x) i

-- one step more is the next state
pub state_after_more : (k x : ℕ) → state_after (suc k) x ≡ next_state (state_after k x)
unfolding state_after
state_after_more zero x = refl
state_after_more (suc k) x = state_after_more k (next_state x)

-- ---- a slice filled up to i: what is written, then what the state x has still to yield, is the whole; and so is the last state ----

pub record PartFilled (seed count : ℕ) (packet : List ℕ) (x i : ℕ) : Type 0 where
  pub within : i ≤ count
  pub long : length packet ≡ count
  pub bytes : take i packet ++ yielded (count - i) x ≡ yielded count seed
  pub state : state_after (count - i) x ≡ state_after count seed

pub part_filled_none : (seed : ℕ) (packet : List ℕ) → PartFilled seed (length packet) packet seed 0
part_filled_none seed packet =
    let all : length packet - 0 ≡ length packet = omega arith in
    record { within = omega arith; long = refl; bytes = rw all; state = rw all }

pub part_filled_more : {seed count x i : ℕ} {packet : List ℕ} (y b : ℕ) → PartFilled seed count packet x i → i < count → y ≡ next_state x → b ≡ byte_of y
    → PartFilled seed count (set packet i b) y (i + 1)
unfolding yielded state_after
part_filled_more {count = count} {x = x} {i = i} {packet = packet} y b f h next yields =
    let rest : ℕ = count - (i + 1) in
    let due : suc rest ≡ count - i = omega arith in
    let one : b ∷ yielded rest y ≡ yielded (suc rest) x = rw (yields, next) in
    record {
      within = omega arith;
      long = length-set packet i b ∙ f.long;
      bytes =
          ap (λ (l : List ℕ). l ++ yielded rest y) (ap (λ (m : ℕ). take m (set packet i b)) (add-one i) ∙ take-suc-set packet i b (omega (arith, f.long)))
          ∙ append_assoc (take i packet) (b ∷ []) (yielded rest y)
          ∙ ap (λ (l : List ℕ). take i packet ++ l) (one ∙ ap (λ (m : ℕ). yielded m x) due)
          ∙ f.bytes;
      state = ap (state_after rest) next ∙ ap (λ (m : ℕ). state_after m x) due ∙ f.state;
    }

pub part_filled_all : {seed count x i : ℕ} {packet : List ℕ} → PartFilled seed count packet x i → count ≤ i
    → (x ≡ state_after count seed) × (packet ≡ yielded count seed)
unfolding yielded state_after
part_filled_all {count = count} {x = x} {i = i} {packet = packet} f h =
    let none : 0 ≡ count - i = omega arith in (
      ap (λ (m : ℕ). state_after m x) none ∙ f.state,
      sym (take_all i packet (omega (arith, f.long))) ∙ sym (append-nil (take i packet)) ∙ ap (λ (m : ℕ). take i packet ++ yielded m x) none ∙ f.bytes,
    )
