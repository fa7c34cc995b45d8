-- The order of patterns is a strict total order: one by a number, and then by such an order, is one.
use mathlib.Core.Path.{◌≡◌, refl, sym, ap, ◌∙◌}
use mathlib.Core.Bool.{Bool, true, false, true≢false}
use mathlib.Core.List.{List, [], ◌∷◌}
use Prim.Native.Nat.{ℕ, ◌<◌}
use native.Mathlib.Omega.{arith}
use borrow.Author.Tests.{lt-ltb, le-ltb, eq-eqb, ne_eqb}
use lib.ListN.{length}
use Rattle.base.proofs.Cases.{by_order, by_equal}
use Rattle.patterns.specs.Order.{keyed, span, lower, before}
use Rattle.patterns.specs.StrictOrder.{Trichotomy, precedes, equals, succeeds, StrictTotal}

-- ---- by a number, and then by an order ----

module _ {A : Type 0} (key : A → ℕ) (R : A → A → Bool) where
  pub keyed_less : (a b : A) → key a < key b → keyed key R a b ≡ true
  unfolding keyed
  keyed_less a b h = simp (lt-ltb _ _ h)

  pub keyed_more : (a b : A) → key b < key a → keyed key R a b ≡ false
  unfolding keyed
  keyed_more a b h = simp (le-ltb (key a) (key b) (omega arith), ne_eqb (key a) (key b) (omega arith))

  pub keyed-same : (a b : A) → key a ≡ key b → keyed key R a b ≡ R a b
  unfolding keyed
  keyed-same a b h = simp (le-ltb (key a) (key b) (omega arith), eq-eqb _ _ h)

  -- what is first by the order has no greater number, and where the numbers are equal it is first by the other order
  keyed_cases : {C : Type 0} (a b : A) → keyed key R a b ≡ true → (key a < key b → C) → (key a ≡ key b → R a b ≡ true → C) → C
  keyed_cases a b t less same =
      by_order (key a) (key b) less
      (λ h.
      by_equal (key a) (key b) (λ e. same e (sym (keyed-same a b e) ∙ t))
      (λ e. absurd (true≢false (sym t ∙ keyed_more a b (omega arith)))))

  pub keyed-total : StrictTotal R → StrictTotal (keyed key R)
  keyed-total order =
      record {
        irreflexive = λ a. keyed-same a a refl ∙ order.irreflexive a;
        transitive = λ a b c h k.
            keyed_cases a b h (λ l. keyed_cases b c k (λ m. keyed_less a c (omega arith)) (λ e m. keyed_less a c (omega arith)))
            (λ e l. keyed_cases b c k (λ m. keyed_less a c (omega arith)) (λ f m. keyed-same a c (e ∙ f) ∙ order.transitive a b c l m));
        trichotomy = λ a b.
            by_order (key a) (key b)
            (λ h. precedes (keyed_less a b h) (λ e. omega (arith, ap key e)) (keyed_more b a h))
            (λ g.
            by_order (key b) (key a)
            (λ h. succeeds (keyed_more a b h) (λ e. omega (arith, ap key e)) (keyed_less b a h))
            (λ h. let e : key a ≡ key b = omega arith in level a b e (order.trichotomy a b)));
      }
    where
      level : (a b : A) → key a ≡ key b → Trichotomy R a b → Trichotomy (keyed key R) a b
      level a b e (precedes x y z) = precedes (keyed-same a b e ∙ x) y (keyed-same b a (sym e) ∙ z)
      level a b e (equals x y z) = equals (keyed-same a b e ∙ x) y (keyed-same b a (sym e) ∙ z)
      level a b e (succeeds x y z) = succeeds (keyed-same a b e ∙ x) y (keyed-same b a (sym e) ∙ z)

-- ---- by positions ----

pub lower_less : (a b : ℕ) (p q : List ℕ) → a < b → lower (a ∷ p) (b ∷ q) ≡ true
unfolding lower
lower_less a b p q h = simp (lt-ltb _ _ h)

pub lower_more : (a b : ℕ) (p q : List ℕ) → b < a → lower (a ∷ p) (b ∷ q) ≡ false
unfolding lower
lower_more a b p q h = simp (le-ltb a b (omega arith), ne_eqb a b (omega arith))

pub lower-same : (a : ℕ) (p q : List ℕ) → lower (a ∷ p) (a ∷ q) ≡ lower p q
unfolding lower
lower-same a p q = simp (le-ltb a a (omega arith), eq-eqb a a refl)

lower_self : (p : List ℕ) → lower p p ≡ false
unfolding lower
lower_self [] = refl
lower_self (a ∷ p) = lower-same a p p ∙ lower_self p

lower_transitive : (p q r : List ℕ) → lower p q ≡ true → lower q r ≡ true → lower p r ≡ true
unfolding lower
lower_transitive [] [] r h k = absurd (true≢false (sym h))
lower_transitive [] (b ∷ q) [] h k = absurd (true≢false (sym k))
lower_transitive [] (b ∷ q) (c ∷ r) h k = refl
lower_transitive (a ∷ p) [] r h k = absurd (true≢false (sym h))
lower_transitive (a ∷ p) (b ∷ q) [] h k = absurd (true≢false (sym k))
lower_transitive (a ∷ p) (b ∷ q) (c ∷ r) h k =
    heads a b p q h (λ l. heads b c q r k (λ m. lower_less a c p r (omega arith)) (λ e m. lower_less a c p r (omega arith)))
    (λ e l. heads b c q r k (λ m. lower_less a c p r (omega arith)) (λ f m. rw (e, f) (lower-same c p r ∙ lower_transitive p q r l m)))
  where
    heads : {C : Type 0} (a b : ℕ) (p q : List ℕ) → lower (a ∷ p) (b ∷ q) ≡ true → (a < b → C) → (a ≡ b → lower p q ≡ true → C) → C
    heads a b p q t less same =
        by_order a b less
        (λ h.
        by_equal a b (λ e. same e (sym (lower-same b p q) ∙ (rw e at t)))
        (λ e. absurd (true≢false (sym t ∙ lower_more a b p q (omega arith)))))

lower_trichotomy : (p q : List ℕ) → Trichotomy lower p q
unfolding lower
lower_trichotomy [] [] = equals refl refl refl
lower_trichotomy [] (b ∷ q) = precedes refl (λ e. omega (arith, ap length e)) refl
lower_trichotomy (a ∷ p) [] = succeeds refl (λ e. omega (arith, ap length e)) refl
lower_trichotomy (a ∷ p) (b ∷ q) =
    by_order a b (λ h. precedes (lower_less a b p q h) (λ e. omega (arith, heads e)) (lower_more b a q p h))
    (λ g.
    by_order b a (λ h. succeeds (lower_more a b p q h) (λ e. omega (arith, heads e)) (lower_less b a q p h))
    (λ h. let e : a ≡ b = omega arith in rw e (tails b p q (lower_trichotomy p q))))
  where
    heads : {a b : ℕ} {p q : List ℕ} → ◌≡◌ {A = List ℕ} (a ∷ p) (b ∷ q) → a ≡ b
    heads e = cc

    tails : (b : ℕ) (p q : List ℕ) → Trichotomy lower p q → Trichotomy lower (b ∷ p) (b ∷ q)
    tails b p q (precedes x y z) = precedes (lower-same b p q ∙ x) (λ e. y (cc)) (lower-same b q p ∙ z)
    tails b p q (equals x y z) = equals (lower-same b p q ∙ x) (cc) (lower-same b q p ∙ z)
    tails b p q (succeeds x y z) = succeeds (lower-same b p q ∙ x) (λ e. y (cc)) (lower-same b q p ∙ z)

pub lower-total : StrictTotal lower
lower-total = record { irreflexive = lower_self; transitive = lower_transitive; trichotomy = lower_trichotomy }

-- ---- the order ----

pub before_strict_total : StrictTotal before
unfolding before
before_strict_total = keyed-total length (keyed span lower) (keyed-total span lower lower-total)

pub fewer_before : (p q : List ℕ) → length p < length q → before p q ≡ true
unfolding before
fewer_before p q h = keyed_less length (keyed span lower) p q h

pub more_before : (p q : List ℕ) → length q < length p → before p q ≡ false
unfolding before
more_before p q h = keyed_more length (keyed span lower) p q h

-- among patterns of one count the span decides, and among those of one span the positions
level_before : (p q : List ℕ) → length p ≡ length q → before p q ≡ keyed span lower p q
unfolding before
level_before p q h = keyed-same length (keyed span lower) p q h

pub narrower_before : (p q : List ℕ) → length p ≡ length q → span p < span q → before p q ≡ true
narrower_before p q e h = level_before p q e ∙ keyed_less span lower p q h

pub wider_before : (p q : List ℕ) → length p ≡ length q → span q < span p → before p q ≡ false
wider_before p q e h = level_before p q e ∙ keyed_more span lower p q h

pub as_wide_before : (p q : List ℕ) → length p ≡ length q → span p ≡ span q → before p q ≡ lower p q
as_wide_before p q e h = level_before p q e ∙ keyed-same span lower p q h
