-- What follows a set of two positions or more among those of its count: with the same ends, then of the same span, then of a greater one.
use mathlib.Core.Path.{◌≡◌, sym, subst, subst₂, ◌∙◌}
use mathlib.Core.Bool.{Bool, true}
use mathlib.Core.Logic.{◌⊎◌, inl, inr}
use mathlib.Core.List.{List}
use Prim.Native.Nat.{ℕ, suc, ◌+◌, ◌-◌, ◌<◌}
use native.Mathlib.Omega.{arith}
use lib.ListN.{length}
use Rattle.base.proofs.Cases.{by_order, by_equal}
use Rattle.patterns.specs.Order.{before}
use Rattle.patterns.specs.StrictOrder.{Foremost}
use Rattle.patterns.proofs.OrderLaws.{before_strict_total}
use Rattle.patterns.proofs.SortedLaws.{never_both}
use Rattle.spans.specs.Spans.{Finds, Summing, Between, OfSpan, Behind}
use Rattle.spans.proofs.FindLaws.{finds_in_first, finds_in_second}
use Rattle.spans.proofs.FrameLaws.{Framed, narrower_framed, lower-framed}
use Rattle.spans.proofs.SpanLaws.{further_later, wider_later}
use Rattle.widening.specs.Widening.{FromSpan}
use Rattle.widening.proofs.WidenLaws.{spanned}

-- a set q of n positions, cut at its ends; it need not have the sum u
module _ (power : ℕ → ℕ) (u : ℕ) {l k : ℕ} {q : List ℕ} {a b : ℕ} {mid : List ℕ} (cut : Framed l k q a b mid) {n : ℕ} (two : n ≡ suc (suc k)) where
  abbrev SameEnds : List ℕ → Type 0
  SameEnds = Behind (Between power k u a b) q

  abbrev Further : List ℕ → Type 0
  Further = OfSpan power l k u (b - a) (a + 1)

  abbrev Wider : List ℕ → Type 0
  Wider = FromSpan power l k u (b - a + 1)

  abbrev Later : List ℕ → Type 0
  Later = Behind (Summing power l n 0 u) q

  at : b ≡ a + (b - a)
  at = omega (arith, cut.apart)

  -- ---- where they stand to the set ----

  module _ {c d : ℕ} {x : List ℕ} (m : Between power k u c d x) where
    counts : length m.0 ≡ length mid
    counts = m.2.counts ∙ sym cut.counts

    wider_behind : b - a < d - c → before q x ≡ true
    wider_behind h = rw (cut.made, m.1) (narrower_framed a b c d mid m.0 (sym counts) h)

    further_behind : b - a ≡ d - c → a < c → before q x ≡ true
    further_behind e h = rw (cut.made, m.1) (lower-framed a b c d mid m.0 (sym counts) e h)

    not_narrower : before q x ≡ true → d - c < b - a → ⊥
    not_narrower t h = never_both before_strict_total x q (rw (cut.made, m.1) (narrower_framed c d a b m.0 mid counts h)) t

    not_nearer : before q x ≡ true → d - c ≡ b - a → c < a → ⊥
    not_nearer t e h = never_both before_strict_total x q (rw (cut.made, m.1) (lower-framed c d a b m.0 mid counts e h)) t

  later_split : (x : List ℕ) → Later x → SameEnds x ⊎ (Further x ⊎ Wider x)
  later_split x (m, t) = go ((spanned power l k u two x).0 m)
    where
      go : FromSpan power l k u 1 x → SameEnds x ⊎ (Further x ⊎ Wider x)
      go (e, h, (c, i, j, s)) =
          by_order e (b - a) (λ lt. absurd (not_narrower s t (omega arith)))
          (λ ge.
          by_equal e (b - a)
          (λ w.
          by_order c a (λ lt. absurd (not_nearer s t (omega arith) lt))
          (λ ge.
          by_equal c a
          (λ z. let y : c + e ≡ b = omega (arith, cut.apart) in inl (subst₂ (λ (p r : ℕ). Between power k u p r x) z y s, t))
          (λ z. inr (inl (c, omega arith, omega arith, subst (λ (r : ℕ). Between power k u c (c + r) x) w s)))))
          (λ w. inr (inr (e, omega arith, (c, i, j, s)))))

  ends_later : (x : List ℕ) → SameEnds x → Later x
  ends_later x (m, t) =
      ((spanned power l k u two x).1 (b - a, omega (arith, cut.apart), (a, omega arith, omega (arith, cut.apart, cut.below), subst (λ (r : ℕ). Between power k u a r x) at m)), t)

  further_follows : (x : List ℕ) → Further x → Later x
  further_follows x (c, h, i, m) =
      ((spanned power l k u two x).1 (b - a, omega (arith, cut.apart), (c, omega arith, i, m)), further_behind m (omega arith) (omega arith))

  wider_follows : (x : List ℕ) → Wider x → Later x
  wider_follows x (e, g, (c, h, i, m)) = ((spanned power l k u two x).1 (e, omega arith, (c, h, i, m)), wider_behind m (omega arith))

  -- ---- and to each other ----

  ends_first : (x y : List ℕ) → SameEnds x → Further y ⊎ Wider y → before x y ≡ true
  ends_first x y (m, t) (inl (c, h, i, s)) = further_later power k u a c (b - a) (omega arith) (subst (λ (r : ℕ). Between power k u a r x) at m) s
  ends_first x y (m, t) (inr (e, g, (c, h, i, s))) =
      wider_later power k u a (b - a) c e (omega arith) (subst (λ (r : ℕ). Between power k u a r x) at m) s

  further_first : (x y : List ℕ) → Further x → Wider y → before x y ≡ true
  further_first x y (c, h, i, m) (e, g, (f, j, o, s)) = wider_later power k u c (b - a) f e (omega arith) m s

  -- ---- what the three searches tell, at places that are given by equations ----

  pub found_between : (x : List ℕ) → Foremost before SameEnds x → Foremost before Later x
  found_between x f = finds_in_first before Later SameEnds (λ y. Further y ⊎ Wider y) x ends_later later_split ends_first f

  module _ (none : (x : List ℕ) → SameEnds x → ⊥) (d from : ℕ) (same : d ≡ b - a) (past : from ≡ a + 1) where
    not_between : (o : Bool) (x : List ℕ) → Finds before (λ y. Further y ⊎ Wider y) o x → Finds before Later o x
    not_between o x f =
        finds_in_second before Later SameEnds (λ y. Further y ⊎ Wider y) o x
        (λ y s. elim s [ inl s ↦ further_follows y s | inr s ↦ wider_follows y s ]) later_split none f

    pub found_further : (x : List ℕ) → Foremost before (OfSpan power l k u d from) x → Foremost before Later x
    found_further x f =
        not_between true x
        (finds_in_first before (λ y. Further y ⊎ Wider y) Further Wider x (λ y m. inl m) (λ y m. m) further_first
        (subst₂ (λ (y z : ℕ). Foremost before (OfSpan power l k u y z) x) same past f))

    pub found_wider : ((x : List ℕ) → OfSpan power l k u d from x → ⊥) → (wide : ℕ) → wide ≡ b - a + 1 → (o : Bool) (x : List ℕ)
        → Finds before (FromSpan power l k u wide) o x → Finds before Later o x
    found_wider gone wide e o x f =
        not_between o x
        (finds_in_second before (λ y. Further y ⊎ Wider y) Further Wider o x (λ y m. inr m) (λ y m. m)
        (λ y. subst₂ (λ (v z : ℕ). OfSpan power l k u v z y → ⊥) same past (gone y))
        (subst (λ (z : ℕ). Finds before (FromSpan power l k u z) o x) e f))
