-- The positions drawn: they ascend below l, and are as many as there were draws; and how a slice comes to hold them, draw by draw.
use mathlib.Core.Path.{◌≡◌, refl, sym, ap, ap₂, ◌∙◌}
use mathlib.Core.List.{List, ◌∷◌, ◌++◌}
use Prim.Native.Nat.{ℕ, zero, suc, ◌+◌, ◌-◌, ◌%◌, ◌<◌, ◌≤◌}
use native.Mathlib.Nat.{mod-lt}
use native.Mathlib.Omega.{arith}
use lib.Dec.{ltb}
use lib.ListN.{length, get_or, take, drop}
use lib.Seq.{length-take-le, length_front, take-take, take_at}
use Rattle.base.specs.Lists.{Ascending, ends}
use Rattle.patterns.specs.Listing.{inserted}
use Rattle.maker.specs.Stream.{next_state, state_after}
use Rattle.maker.proofs.StreamLaws.{state_after_more}
use Rattle.channel.specs.Channel.{untaken, drawn}
use Rattle.channel.proofs.TakingLaws.{inserted_between, between_ascends, between_length, gap_exists, untaken_at}

pub drawn_suc : (l i x : ℕ) → drawn l (suc i) x ≡ inserted ltb (get_or (untaken (drawn l i x) l 0) (state_after (suc i) x % (l - i)) 0) (drawn l i x)
unfolding drawn
drawn_suc l i x = refl

-- the positions drawn are a set of so many positions below l
pub drawn_ascends : (l f x : ℕ) → f ≤ l → Ascending l 0 (drawn l f x) × (length (drawn l f x) ≡ f)
unfolding drawn
drawn_ascends l zero x h = (ends, refl)
drawn_ascends l (suc i) x h =
    let ts = drawn l i x in
    let before = drawn_ascends l i x (omega arith) in
    let room : 0 < l - i = omega arith in
    let place : ℕ = state_after (suc i) x % (l - i) in
    let g = gap_exists place before.0 in
    let low : place + g.0 < l = omega (arith, mod-lt (state_after (suc i) x) room, g.1.within, before.1) in
    let e : drawn l (suc i) x ≡ take g.0 ts ++ (place + g.0) ∷ drop g.0 ts =
    drawn_suc l i x ∙ ap (λ (p : ℕ). inserted ltb p ts) (untaken_at place ts before.0 g.1 refl low) ∙ inserted_between ts g.1 in
    rw e (between_ascends before.0 g.1 (omega arith) low, between_length ts g.1 ∙ ap suc before.1)

-- ---- a slice that holds the first i draws in front ----

pub record Drawing (seed l : ℕ) (old pos : List ℕ) (x i : ℕ) : Type 0 where
  pub within : i ≤ length old
  pub long : length pos ≡ length old
  pub state : x ≡ state_after i seed
  pub positions : take i pos ≡ drawn l i seed

pub drawing_none : (seed l : ℕ) (old : List ℕ) → Drawing seed l old old seed 0
unfolding drawn state_after
drawing_none seed l old = record { within = omega arith; long = refl; state = refl; positions = refl }

module _ {seed l x i : ℕ} {old pos : List ℕ} (d : Drawing seed l old pos x i) (inside : i < length old) (room : length old ≤ l) where
  -- the part of the slice that the next draw is lent, and what of it is taken
  lent_length : length (take (i + 1) pos) ≡ i + 1
  lent_length = length-take-le (i + 1) pos (omega (arith, d.long))

  lent_taken : take (length (take (i + 1) pos) - 1) (take (i + 1) pos) ≡ drawn l i seed
  lent_taken =
      let m : length (take (i + 1) pos) - 1 ≡ i = omega (arith, lent_length) in
      ap (λ (n : ℕ). take n (take (i + 1) pos)) m ∙ take-take i (i + 1) pos (omega arith) ∙ d.positions

  place_below : (y : ℕ) → y % (l - i) < l - i
  place_below y = let h : 0 < l - i = omega arith in mod-lt y h

  pub drawing_more : (y place : ℕ) (q : List ℕ) → y ≡ next_state x → place ≡ y % (l - i)
      → (let lent = take (i + 1) pos in let taken = take (length lent - 1) lent in
      (m : ℕ) → Ascending m 0 taken → place + length lent ≤ m → q ≡ inserted ltb (get_or (untaken taken m 0) place 0) taken)
      → Drawing seed l old (q ++ drop (i + 1) pos) y (i + 1)
  drawing_more y place q step e told =
      let state : y ≡ state_after (suc i) seed = step ∙ ap next_state d.state ∙ sym (state_after_more i seed) in
      let ascends = drawn_ascends l i seed (omega arith) in
      let now : q ≡ drawn l (suc i) seed =
      told l (rw lent_taken ascends.0) (omega (arith, e, place_below y, lent_length))
      ∙ ap₂ (λ (t : List ℕ) (p : ℕ). inserted ltb (get_or (untaken t l 0) p 0) t) lent_taken (e ∙ ap (λ (n : ℕ). n % (l - i)) state)
      ∙ sym (drawn_suc l i seed) in
      let one : suc i ≡ i + 1 = omega arith in
      let long : length q ≡ i + 1 = ap length now ∙ (drawn_ascends l (suc i) seed (omega arith)).1 ∙ one in
      record {
        within = omega arith;
        long = length_front pos q (i + 1) (long ∙ sym lent_length) ∙ d.long;
        state = state ∙ ap (λ (n : ℕ). state_after n seed) one;
        positions = take_at q (drop (i + 1) pos) (i + 1) long ∙ now ∙ ap (λ (n : ℕ). drawn l n seed) one;
      }
