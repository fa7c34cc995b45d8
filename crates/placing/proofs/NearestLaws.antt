-- The nearest position of a power: found by the first one and the period, and what it decides of the sets of one
-- and of two positions.
use mathlib.Core.Path.{◌≡◌, refl, sym, ap, ◌∙◌}
use mathlib.Core.Bool.{true, false}
use mathlib.Core.List.{List, [], ◌∷◌}
use Rattle.std.proofs.Common.{Option, Some, None}
use Prim.Native.Nat.{ℕ, zero, suc, ◌+◌, ◌-◌, ◌*◌, ◌/◌, ◌<◌, ◌≤◌}
use native.Mathlib.Omega.{arith}
use native.Mathlib.Nat.{mod-lt, div-add-mod', mul-le-mul_right, suc-mul}
use lib.Bits.{bit_xor, xor_self, xor_lt}
use lib.Dec.{eqb, ltb}
use lib.ListN.{length, get_or, set}
use borrow.Author.Tests.{lt-ltb, le-ltb, eq-eqb, ne_eqb, eqb-true, eqb-false}
use Rattle.base.proofs.Cases.{by_test, by_order}
use Rattle.base.proofs.XorLaws.{xor_zero_equal}
use Rattle.placing.specs.Placing.{Head, headless, starts, first_from, answer, Nearest, Firsts, Lookup, Ready}
use Rattle.placing.proofs.HeadLaws.{or_else, onto, first_from_zero, first_from_past, first_from-step}

-- the least multiple of c that is at least d
pub reach_bounds : (d c : ℕ) → 1 ≤ c → (d ≤ (d + c - 1) / c * c) × ((d + c - 1) / c * c < d + c)
reach_bounds d c h = omega (arith, div-add-mod' (d + c - 1) c, mod-lt (d + c - 1) h)

-- a multiple below the least one is too small
multiple_below : (j k c d : ℕ) → k * c < d + c → j * c < k * c → j * c < d
multiple_below j k c d h l =
    by_order j k
    (λ m. let e = mul-le-mul_right c m in omega (arith, suc-mul j c))
    (λ m. let e = mul-le-mul_right c m in absurd (omega arith))

module _ {power : ℕ → ℕ} {first : List ℕ} {period : ℕ} (t : Firsts power first period) where
  again_many : (p k : ℕ) → power (p + k * period) ≡ power p
  again_many p zero = ap power (omega arith)
  again_many p (suc k) =
      let e : p + suc k * period ≡ (p + k * period) + period = omega (arith, suc-mul k period) in
      ap power e ∙ t.again (p + k * period) ∙ again_many p k

  -- a later position of the same power is some periods on
  module _ (u : ℕ) (within : u < length first) where
    least_of : (q : ℕ) → power q ≡ u → get_or first u 0 ≤ q
    least_of q e = rw (sym e) (t.least q)

    periods_on : (q : ℕ) → power q ≡ u → get_or first u 0 < 65535 → (k : ℕ) × (q ≡ get_or first u 0 + k * period)
    periods_on q e h = t.only (get_or first u 0) q (t.hit u within h ∙ sym e) (least_of q e)

    pub near_first : (l lo : ℕ) → l ≤ 4096 → lo ≤ get_or first u 0 → Nearest power l lo u (get_or first u 0)
    near_first l lo s h =
        record {
          skipped = λ q a b c e. omega (arith, least_of q e);
          met = λ b. (h, t.hit u within (omega arith));
        }

    pub near_none : (l lo : ℕ) → l ≤ 4096 → (lo ≤ get_or first u 0 → l ≤ get_or first u 0) → (get_or first u 0 < lo → l ≤ period) → Nearest power l lo u l
    near_none l lo s h p =
        record {
          skipped = λ q a d c e. let m = least_of q e in none q a c (periods_on q e (omega arith));
          met = λ x. absurd (omega arith);
        }
      where
        none : (q : ℕ) → lo ≤ q → q < l → (k : ℕ) × (q ≡ get_or first u 0 + k * period) → ⊥
        none q a c (zero, e) = let m : l ≤ get_or first u 0 = h (omega arith) in omega arith
        none q a c (suc k, e) =
            by_order (get_or first u 0) lo (λ b. let m = p b in omega (arith, suc-mul k period))
            (λ b. let m = h b in omega arith)

    -- k periods on from the first, for the least k that reaches lo
    pub near_period : (l lo : ℕ) → l ≤ 4096 → get_or first u 0 < lo → lo ≤ l → 1 ≤ period
        → {p : ℕ} → p ≡ get_or first u 0 + (lo - get_or first u 0 + period - 1) / period * period → Nearest power l lo u p
    near_period l lo s h b positive {p} is =
        record {
          skipped = λ q a d c e. below q a (omega arith) (periods_on q e (omega arith));
          met = λ x. (omega (arith, bounds), ap power is ∙ again_many (get_or first u 0) ((lo - get_or first u 0 + period - 1) / period) ∙ t.hit u within (omega arith));
        }
      where
        bounds : (lo - get_or first u 0 ≤ (lo - get_or first u 0 + period - 1) / period * period)
            × ((lo - get_or first u 0 + period - 1) / period * period < lo - get_or first u 0 + period)
        bounds = reach_bounds (lo - get_or first u 0) period positive

        below : (q : ℕ) → lo ≤ q → q < get_or first u 0 + (lo - get_or first u 0 + period - 1) / period * period → (k : ℕ) × (q ≡ get_or first u 0 + k * period) → ⊥
        below q a d (k, e) =
            let m = multiple_below k ((lo - get_or first u 0 + period - 1) / period) period (lo - get_or first u 0) bounds.1 (omega arith) in
            omega arith

-- past the end it is as good as at the end
pub near_end : {power : ℕ → ℕ} {l lo u p : ℕ} → l ≤ p → Nearest power l lo u p → Nearest power l lo u l
near_end h n = record { skipped = λ q a b. n.skipped q a (omega arith); met = λ x. absurd (omega arith) }

module _ (power : ℕ → ℕ) where
  xor_miss : (u w : ℕ) → (w ≡ u → ⊥) → eqb 0 (bit_xor u w) ≡ false
  xor_miss u w h = ne_eqb 0 (bit_xor u w) (λ e. h (sym (xor_zero_equal u w (sym e))))

  -- the nearest position is the first set of one
  pub nearest_first : (l u p d lo : ℕ) → lo + d ≡ l → Nearest power l lo u p → first_from power l 1 lo u ≡ answer (ltb p l) (p ∷ [])
  nearest_first l u p zero lo e n =
      by_order p l (λ h. absurd (let m = n.met h in omega (arith, m.0)))
      (λ h. first_from_past power l zero lo u (omega arith) ∙ sym (rw (le-ltb p l h)))
  nearest_first l u p (suc d) lo e n =
      let s = first_from-step power l zero lo u (omega arith) in
      let z = first_from_zero power l (lo + 1) (bit_xor u (power lo)) in
      by_test (eqb (power lo) u)
      (λ h.
      let hit : power lo ≡ u = eqb-true _ _ h in
      let q : p ≡ lo = here hit in
      let m : eqb 0 (bit_xor u (power lo)) ≡ true = eq-eqb 0 (bit_xor u (power lo)) (sym (ap (bit_xor u) hit ∙ xor_self u)) in
      s ∙ rw (z, m, q, lt-ltb lo l (omega arith)))
      (λ h.
      let miss : power lo ≡ u → ⊥ = eqb-false _ _ h in
      s ∙ rw (z, xor_miss u (power lo) miss) (nearest_first l u p d (lo + 1) (omega arith) (onward miss)))
    where
      here : power lo ≡ u → p ≡ lo
      here hit =
          by_order p lo (λ a. absurd (let m = n.met (omega arith) in omega (arith, m.0)))
          (λ a. by_order lo p (λ b. absurd (n.skipped lo (omega arith) b (omega arith) hit)) (λ b. omega arith))

      onward : (power lo ≡ u → ⊥) → Nearest power l (lo + 1) u p
      onward miss =
          record {
            skipped = λ q a. n.skipped q (omega arith);
            met = λ b.
                let m = n.met b in
                (by_order lo p (λ c. omega arith) (λ c. let e : lo ≡ p = omega (arith, m.0) in absurd (miss (ap power e ∙ m.1))), m.1);
          }

-- what was found of the nearest position, as a set of one
abbrev pub alone : Option ℕ → Head
alone (Some p) = starts (p ∷ [])
alone None = headless

-- what was found is the nearest
abbrev pub NearestIn : (ℕ → ℕ) → ℕ → ℕ → ℕ → Option ℕ → Type 0
NearestIn power l lo u (Some p) = (p < l) × Nearest power l lo u p
NearestIn power l lo u None = Nearest power l lo u l

pub first_alone : (power : ℕ → ℕ) (l lo u : ℕ) → lo ≤ l → (r : Option ℕ) → NearestIn power l lo u r → first_from power l 1 lo u ≡ alone r
first_alone power l lo u h (Some p) n = nearest_first power l u p (l - lo) lo (omega arith) n.1 ∙ rw (lt-ltb p l n.0)
first_alone power l lo u h None n = nearest_first power l u l (l - lo) lo (omega arith) n ∙ rw (le-ltb l l (omega arith))

-- one position placed: the search goes on behind it, from any place on, and past it
pub ready_next : {pow first : List ℕ} {period lo u : ℕ} → Ready pow first period lo u → (a : ℕ) → a < length pow → {from : ℕ} → from ≤ length pow
    → Ready pow first period from (bit_xor u (get_or pow a 0))
ready_next {pow} {first} {period} {lo} {u} r a h k =
    record { n = r.n; shape = r.shape; index = r.index; start = k; sum = xor_lt r.n u (get_or pow a 0) r.sum (r.shape.inside a h) }

pub ready_at : {pow first : List ℕ} {period lo u : ℕ} → Ready pow first period lo u → {from : ℕ} → from ≤ length pow → Ready pow first period from u
ready_at r h = record { n = r.n; shape = r.shape; index = r.index; start = h; sum = r.sum }

module _ {power : ℕ → ℕ} {pow first : List ℕ} {period : ℕ} (t : Lookup power pow first period) where
  pub place_turn : (k a u : ℕ) → a < length pow
      → first_from power (length pow) (suc k) a u
      ≡ or_else (onto a (first_from power (length pow) k (a + 1) (bit_xor u (get_or pow a 0)))) (first_from power (length pow) (suc k) (a + 1) u)
  place_turn k a u h =
      first_from-step power (length pow) k a u h
      ∙ ap (λ (x : ℕ). or_else (onto a (first_from power (length pow) k (a + 1) (bit_xor u x))) (first_from power (length pow) (suc k) (a + 1) u))
      (sym (t.known a h))

  -- with the last one looked up
  pub pair_turn : (a u : ℕ) → a < length pow → {from : ℕ} → from ≡ a + 1 → (r : Option ℕ) → NearestIn power (length pow) from (bit_xor u (get_or pow a 0)) r
      → first_from power (length pow) 2 a u ≡ or_else (onto a (alone r)) (first_from power (length pow) 2 (a + 1) u)
  pair_turn a u h e r n =
      place_turn 1 a u h
      ∙ ap (λ (x : Head). or_else (onto a x) (first_from power (length pow) 2 (a + 1) u))
      (first_alone power (length pow) (a + 1) (bit_xor u (get_or pow a 0)) (omega arith) r (rw e at n))

-- what the stores leave in a slice of one and of two
pub set_one : (xs : List ℕ) (a : ℕ) → length xs ≡ 1 → set xs 0 a ≡ a ∷ []
set_one [] a h = absurd (omega arith)
set_one (x ∷ []) a h = refl
set_one (x ∷ y ∷ xs) a h = absurd (omega arith)

pub set_two : (xs : List ℕ) (a b : ℕ) → length xs ≡ 2 → set (set xs 0 a) 1 b ≡ a ∷ b ∷ []
set_two [] a b h = absurd (omega arith)
set_two (x ∷ []) a b h = absurd (omega arith)
set_two (x ∷ y ∷ []) a b h = refl
set_two (x ∷ y ∷ z ∷ xs) a b h = absurd (omega arith)
