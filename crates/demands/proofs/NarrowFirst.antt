-- Narrow patterns first (docs/RULES.md, sections 3 and 10), about the calls: of any two records of a sequence of pages, and of the pattern
-- that Several names beside any other that leads to a passing packet. And what a span is: the greatest distance of two positions.
use mathlib.Core.Path.{◌≡◌, refl, sym, ap, ap₂, ◌∙◌}
use mathlib.Core.Bool.{true, true≢false}
use mathlib.Core.Logic.{◌↔◌}
use mathlib.Core.List.{List, [], ◌∷◌, ◌++◌}
use Prim.Native.Nat.{ℕ, ◌-◌, ◌<◌, ◌≤◌}
use native.Mathlib.Omega.{arith}
use lib.ListN.{length, get_or, take}
use lib.Seq.{length-take-le}
use Rattle.base.specs.Lists.{Ascending}
use Rattle.base.specs.Outcome.{accepted}
use Rattle.base.proofs.Cases.{by_order, by_equal}
use Rattle.base.proofs.ListLaws.{ascending_on}
use Rattle.packet.specs.Packet.{bits, remainder}
use Rattle.packet.specs.declared.Crc.{Crc}
use Rattle.checksum.specs.declared.Check.{Check}
use Rattle.patterns.specs.Order.{span, lower, before}
use Rattle.patterns.proofs.OrderLaws.{lower_less, lower_more, lower-same, fewer_before, more_before, narrower_before, wider_before, as_wide_before}
use Rattle.patterns.proofs.CompareLaws.{span_ends}
use Rattle.patterns.proofs.SortedLaws.{sorted_take, sorted_at}
use Rattle.patterns.proofs.ListingLaws.{listing_sorted}
use Rattle.records.specs.Records.{records}
use Rattle.records.specs.Sequences.{joined, reported}
use Rattle.pages.specs.Sequences.{Lending, accepted_calls}
use Rattle.verdicts.specs.Verdicts.{packet_list, Said, several, Leads}
use Rattle.repair.specs.Calls.{repair_call}
use Rattle.demands.specs.Demand3.{Supposed, repair_with}
use Rattle.demands.specs.NarrowFirst.{Precedes, fewer, narrower, lower_at}
use Rattle.demands.proofs.Demand3.{pages_joined, names_the_earliest}

-- ---- the order, in words ----

-- where two of one length first differ
lower_differs : (p q : List ℕ) → length p ≡ length q → lower p q ≡ true
    → (both : List ℕ) × (a : ℕ) × (b : ℕ) × (xs : List ℕ) × (ys : List ℕ) × (p ≡ both ++ a ∷ xs) × (q ≡ both ++ b ∷ ys) × (a < b)
unfolding lower
lower_differs [] [] e t = absurd (true≢false (sym t))
lower_differs [] (y ∷ q) e t = absurd (omega arith)
lower_differs (x ∷ p) [] e t = absurd (omega arith)
lower_differs (x ∷ p) (y ∷ q) e t =
    by_order x y (λ h. ([], x, y, p, q, refl, refl, h))
    (λ g.
    by_equal x y
    (λ d.
    let r = lower_differs p q (omega arith) (sym (ap (λ (z : ℕ). lower (z ∷ p) (y ∷ q)) d ∙ lower-same y p q) ∙ t) in
    (x ∷ r.0, r.1, r.2, r.3, r.4, ap (λ (l : List ℕ). x ∷ l) r.5, ap (λ (z : ℕ). z ∷ q) (sym d) ∙ ap (λ (l : List ℕ). x ∷ l) r.6, r.7))
    (λ d. absurd (true≢false (sym t ∙ lower_more x y p q (omega arith)))))

differs_lower : (both : List ℕ) (a b : ℕ) (xs ys : List ℕ) → a < b → lower (both ++ a ∷ xs) (both ++ b ∷ ys) ≡ true
differs_lower [] a b xs ys h = lower_less a b xs ys h
differs_lower (x ∷ both) a b xs ys h = lower-same x (both ++ a ∷ xs) (both ++ b ∷ ys) ∙ differs_lower both a b xs ys h

pub before_precedes : (p q : List ℕ) → (before p q ≡ true) ↔ Precedes p q
before_precedes p q = (
  λ t.
      by_order (length p) (length q) (λ h. fewer h)
      (λ g.
      by_equal (length p) (length q)
      (λ e.
      by_order (span p) (span q) (λ h. narrower e h)
      (λ g.
      by_equal (span p) (span q) (λ s. let r = lower_differs p q e (sym (as_wide_before p q e s) ∙ t) in lower_at e s r.0 r.1 r.2 r.3 r.4 r.5 r.6 r.7)
      (λ s. absurd (true≢false (sym t ∙ wider_before p q e (omega arith))))))
      (λ e. absurd (true≢false (sym t ∙ more_before p q (omega arith))))),
  back,
)
  where
    back : Precedes p q → before p q ≡ true
    back (fewer h) = fewer_before p q h
    back (narrower e h) = narrower_before p q e h
    back (lower_at e s both a b xs ys f g h) = as_wide_before p q e s ∙ ap₂ lower f g ∙ differs_lower both a b xs ys h

-- ---- the span ----

-- no two positions are further apart than the last and the first
pub span_greatest : {l : ℕ} (ps : List ℕ) → Ascending l 0 ps → (i j : ℕ) → i < length ps → j < length ps → get_or ps j 0 - get_or ps i 0 ≤ span ps
span_greatest ps asc i j h k =
    omega (arith, span_ends ps, ascending_on asc 0 i (omega arith) h, ascending_on asc j (length ps - 1) (omega arith) (omega arith))

-- ---- the calls ----

-- an accepted packet, initial and final value, range, field and limit
module _ (c : Crc) (k : Check) (limit : ℕ) (s : List ℕ) (supposed : Supposed c k limit s) where
  -- of any two records of a sequence of page calls the one that precedes stands first
  pub pages_narrow_first : (lendings : List Lending)
      → let cs = accepted_calls c.generator.coefficients (bits s) limit (remainder c s) lendings in
      (xs : List (List ℕ)) × (joined cs ≡ records xs) × (length xs ≡ reported cs)
      × ((i j : ℕ) → i < j → j < length xs → Precedes (get_or xs i []) (get_or xs j []))
  pages_narrow_first lendings =
      let n : ℕ = reported (accepted_calls c.generator.coefficients (bits s) limit (remainder c s) lendings) in
      let j = pages_joined c k limit s supposed lendings in
      let sorted = sorted_take n (listing_sorted c.generator.degree c.generator.coefficients (bits s) limit (remainder c s)) in (
        take n (packet_list c limit s),
        j.0,
        length-take-le n (packet_list c limit s) j.1,
        λ a b h m. (before_precedes _ _).0 (sorted_at [] sorted a b h m),
      )

  -- and the pattern that Several names precedes every other that leads to a passing packet
  pub several_narrow_first : (lent : Lending) (v : Said) → repair_call (repair_with c k limit s lent) ≡ accepted v → (n : ℕ) (q : List ℕ) → v ≡ several n q
      → (p : List ℕ) → Leads c k limit s p → (p ≡ q → ⊥) → Precedes q p
  several_narrow_first lent v told n q h p leads other =
      (before_precedes q p).0 ((names_the_earliest c k limit s supposed lent v told n q h).1 p leads other)
