-- The verdict in the words of docs/RULES.md. For a listed pattern the flipped packet's remainder is 0, so that passing the second
-- check is as much as passing both; and since the list ascends, one member is one set, several are several sets, and the first
-- member is the earliest.
use mathlib.Core.Path.{◌≡◌, refl, sym, ap, subst, ◌∙◌}
use mathlib.Core.Bool.{Bool, true, false, ◌&&◌, true≢false, and-true}
use mathlib.Core.Logic.{◌↔◌}
use mathlib.Core.List.{List, [], ◌∷◌}
use Prim.Native.Nat.{ℕ, ◌<◌, ◌≤◌}
use native.Mathlib.Omega.{arith}
use borrow.Author.Tests.{eq-eqb, eqb-true}
use lib.Bits.{bit_xor, xor_self}
use lib.Dec.{eqb}
use lib.ListN.{length}
use Rattle.base.specs.Lists.{In, here, there, All, Ascending}
use Rattle.base.proofs.Cases.{by_test}
use Rattle.base.proofs.ListLaws.{in_nothing, no_member, ascending_all}
use Rattle.poly.specs.Fit.{Fit}
use Rattle.packet.specs.Packet.{Bytes, bits, remainder, flips}
use Rattle.packet.specs.declared.Crc.{Crc}
use Rattle.packet.proofs.RemainderLaws.{remainder-flips}
use Rattle.checksum.specs.Checksum.{passes}
use Rattle.checksum.specs.declared.Check.{Check}
use Rattle.patterns.specs.Order.{before}
use Rattle.patterns.specs.StrictOrder.{Sorted}
use Rattle.patterns.specs.Listing.{syndrome}
use Rattle.patterns.proofs.OrderLaws.{before_strict_total}
use Rattle.patterns.proofs.SiftLaws.{sift_in, in_sift, sift-same}
use Rattle.patterns.proofs.SortedLaws.{sorted_head, sorted_sift, differs}
use Rattle.patterns.proofs.ForemostLaws.{foremost_same, first_foremost, foremost_first}
use Rattle.patterns.proofs.ListingLaws.{listed_iff, listing_sorted}
use Rattle.verdicts.specs.Verdicts.{passes_both, packet_list, candidates, Said, intact, repaired, several, nothing, settled, verdict, mended, output_for, Leads, leading, Earliest}

-- ---- one, none or several members of an ascending list ----

only_member : {p q : List ℕ} → In q (p ∷ []) → q ≡ p
only_member (here d) = d
only_member (there i) = absurd (in_nothing i)

first_two_differ : {x y : List ℕ} {ys : List (List ℕ)} → Sorted before (x ∷ y ∷ ys) → x ≡ y → ⊥
first_two_differ {y = y} sorted = differs before_strict_total (sorted_head sorted y (here refl))

only_one : {p : List ℕ} {xs : List (List ℕ)} → Sorted before xs → In p xs → ((q : List ℕ) → In q xs → q ≡ p) → xs ≡ p ∷ []
only_one {xs = []} sorted h only = absurd (in_nothing h)
only_one {xs = x ∷ []} sorted h only = ap (λ (q : List ℕ). q ∷ []) (only x (here refl))
only_one {xs = x ∷ y ∷ ys} sorted h only = absurd (first_two_differ sorted (only x (here refl) ∙ sym (only y (there (here refl)))))

two_members : (xs : List (List ℕ)) → Sorted before xs → 2 ≤ length xs → (p : List ℕ) × (q : List ℕ) × In p xs × In q xs × (p ≡ q → ⊥)
two_members [] sorted h = absurd (omega arith)
two_members (x ∷ []) sorted h = absurd (omega arith)
two_members (x ∷ y ∷ ys) sorted h = (x, y, here refl, there (here refl), first_two_differ sorted)

members_two : {p q : List ℕ} (xs : List (List ℕ)) → In p xs → In q xs → (p ≡ q → ⊥) → 2 ≤ length xs
members_two [] i j other = absurd (in_nothing i)
members_two (x ∷ []) i j other = absurd (other (only_member i ∙ sym (only_member j)))
members_two (x ∷ y ∷ ys) i j other = omega arith

-- ---- the earliest ----

pub earliest_same : {P Q : List ℕ → Type 0} → ((ps : List ℕ) → P ps ↔ Q ps) → (ps : List ℕ) → Earliest P ps ↔ Earliest Q ps
earliest_same same ps = (λ e. foremost_same same e, λ e. foremost_same (λ qs. ((same qs).1, (same qs).0)) e)

-- ---- the verdict by the candidates ----

pub zero_not_one : {A : Type 0} → ◌≡◌ {A = ℕ} 0 1 → A
zero_not_one e = absurd (omega arith)

never_intact : (xs : List (List ℕ)) → settled xs ≡ intact → ⊥
never_intact [] h = zero_not_one cc
never_intact (x ∷ []) h = zero_not_one cc
never_intact (x ∷ y ∷ ys) h = zero_not_one cc

nothing_none : (xs : List (List ℕ)) → settled xs ≡ nothing → xs ≡ []
nothing_none [] h = refl
nothing_none (x ∷ []) h = zero_not_one cc
nothing_none (x ∷ y ∷ ys) h = zero_not_one cc

repaired_one : (xs : List (List ℕ)) (p : List ℕ) → settled xs ≡ repaired p → xs ≡ p ∷ []
repaired_one [] p h = zero_not_one cc
repaired_one (x ∷ []) p h = let e : x ≡ p = cc in ap (λ (q : List ℕ). q ∷ []) e
repaired_one (x ∷ y ∷ ys) p h = zero_not_one cc

-- several is said of two or more, with their number and the earliest
several_more : (xs : List (List ℕ)) → Sorted before xs → (n : ℕ) (q : List ℕ)
    → settled xs ≡ several n q ↔ ((2 ≤ length xs) × (n ≡ length xs) × Earliest (λ ps. In ps xs) q)
several_more [] sorted n q = (λ h. zero_not_one cc, λ h. absurd (omega (arith, h.0)))
several_more (x ∷ []) sorted n q = (λ h. zero_not_one cc, λ h. absurd (omega (arith, h.0)))
several_more (x ∷ y ∷ ys) sorted n q = (
  λ h. let e : x ≡ q = cc in (omega arith, cc, subst (Earliest (λ ps. In ps (x ∷ y ∷ ys))) e (first_foremost sorted)),
  λ h. let d = h.1 in let e = foremost_first before_strict_total sorted h.2 in cc,
)

-- who passes both checks passes each
pub both_passed : (c : Crc) (k : Check) (s : List ℕ) → passes_both c k s ≡ true → (remainder c s ≡ 0) × (passes k s ≡ true)
unfolding passes_both
both_passed c k s h =
    by_test (eqb (remainder c s) 0) (λ q. (eqb-true _ _ q, rw q at h))
    (λ q. absurd (true≢false (sym h ∙ ap (λ (b : Bool). b && passes k s) q)))

-- where the second check is passed, the CRC decides
pub passes_by_crc : (c : Crc) (k : Check) (s : List ℕ) → passes k s ≡ true → passes_both c k s ≡ eqb (remainder c s) 0
unfolding passes_both
passes_by_crc c k s h = rw h (and-true _)

module _ (c : Crc) (k : Check) (limit : ℕ) (s : List ℕ) where
  -- what is said of a packet that does not pass, and what is said at all
  unpassed : passes_both c k s ≡ false → verdict c k limit s ≡ settled (candidates c k limit s)
  unpassed h = rw h

  unless_intact : (v : Said) → (v ≡ intact → ⊥) → verdict c k limit s ≡ v → (passes_both c k s ≡ false) × (settled (candidates c k limit s) ≡ v)
  unless_intact v other h = by_test (passes_both c k s) (λ t. absurd (other (sym (rw t at h)))) (λ t. (t, rw t at h))

  -- intact exactly when the packet passes both checks
  pub verdict_intact : verdict c k limit s ≡ intact ↔ (passes_both c k s ≡ true)
  verdict_intact = (
    λ h. by_test (passes_both c k s) (λ t. t) (λ t. absurd (never_intact (candidates c k limit s) (rw t at h))),
    λ h. rw h,
  )

  -- a repair is by the one candidate, whose positions are positions of the packet
  one_candidate : (p : List ℕ) → verdict c k limit s ≡ repaired p → (passes_both c k s ≡ false) × (candidates c k limit s ≡ p ∷ [])
  one_candidate p h =
      let r = unless_intact (repaired p) (λ e. zero_not_one cc) h in
      (r.0, repaired_one (candidates c k limit s) p r.1)

  pub repaired_within : (p : List ℕ) → verdict c k limit s ≡ repaired p → All (λ (q : ℕ). q < bits s) p
  unfolding candidates
  repaired_within p h =
      let i : In p (candidates c k limit s) = rw (one_candidate p h).1 (here refl) in
      ascending_all ((listed_iff c.generator.degree c.generator.coefficients (bits s) limit (remainder c s) p).0 (sift_in (λ ps. passes k (flips s ps)) (packet_list c limit s) i).0).0

  -- the output is the flipped packet where the verdict is a repair, and stays as it was where it is none
  pub output_repaired : (p out : List ℕ) → verdict c k limit s ≡ repaired p → output_for c k limit s out ≡ flips s p
  output_repaired p out h = let r = one_candidate p h in rw (r.0, r.1)

  pub output_unchanged : (out : List ℕ) → ((p : List ℕ) → verdict c k limit s ≡ repaired p → ⊥) → output_for c k limit s out ≡ out
  output_unchanged out other =
      by_test (passes_both c k s) (λ t. rw t) (λ t. rw t (unmended (candidates c k limit s) (λ p h. other p (unpassed t ∙ h))))
    where
      unmended : (xs : List (List ℕ)) → ((p : List ℕ) → settled xs ≡ repaired p → ⊥) → mended xs s out ≡ out
      unmended [] f = refl
      unmended (x ∷ []) f = absurd (f x refl)
      unmended (x ∷ y ∷ ys) f = refl

-- ---- the listed sets that lead to a passing packet ----

module _ (c : Crc) (k : Check) (limit : ℕ) (s : List ℕ) where
  pub in_leading : (ps : List ℕ) → In ps (leading c k limit s) ↔ Leads c k limit s ps
  in_leading ps = (
    λ h. let r = sift_in (λ qs. passes_both c k (flips s qs)) (packet_list c limit s) h in record { listed = r.0; passing = r.1 },
    λ l. in_sift (λ qs. passes_both c k (flips s qs)) l.listed l.passing,
  )

  pub leading_sorted : Sorted before (leading c k limit s)
  leading_sorted = sorted_sift (λ qs. passes_both c k (flips s qs)) (listing_sorted c.generator.degree c.generator.coefficients (bits s) limit (remainder c s))

  -- more than one is two that differ
  pub two_lead : 2 ≤ length (leading c k limit s)
      ↔ ((p : List ℕ) × (q : List ℕ) × Leads c k limit s p × Leads c k limit s q × (p ≡ q → ⊥))
  two_lead = (
    λ h. let r = two_members (leading c k limit s) leading_sorted h in (r.0, r.1, (in_leading r.0).0 r.2, (in_leading r.1).0 r.3, r.4),
    λ r. members_two (leading c k limit s) ((in_leading r.0).1 r.2) ((in_leading r.1).1 r.3) r.4,
  )

module _ (c : Crc) (k : Check) (limit : ℕ) (s : List ℕ) (fit : Fit c.generator) (bs : Bytes s) where
  -- flipping positions adds their syndrome to the remainder
  pub remainder-syndrome : (ps : List ℕ) → Ascending (bits s) 0 ps
      → remainder c (flips s ps) ≡ bit_xor (remainder c s) (syndrome c.generator.degree c.generator.coefficients ps)
  unfolding syndrome
  remainder-syndrome ps h = remainder-flips c fit.divisor s ps (ascending_all h) bs

  -- so flipping a listed pattern leaves remainder 0
  pub listed_remainder : (ps : List ℕ) → In ps (packet_list c limit s) → remainder c (flips s ps) ≡ 0
  listed_remainder ps h =
      let l = (listed_iff c.generator.degree c.generator.coefficients (bits s) limit (remainder c s) ps).0 h in
      remainder-syndrome ps l.0
      ∙ ap (bit_xor (remainder c s)) l.2
      ∙ xor_self (remainder c s)

  -- and passing the second check is then passing both
  pub listed_passes : (ps : List ℕ) → In ps (packet_list c limit s) → passes_both c k (flips s ps) ≡ passes k (flips s ps)
  unfolding passes_both
  listed_passes ps h = ap (λ (b : Bool). b && passes k (flips s ps)) (eq-eqb _ _ (listed_remainder ps h))

  -- so the candidates are the listed sets that lead to a passing packet
  pub candidates-leading : candidates c k limit s ≡ leading c k limit s
  unfolding candidates
  candidates-leading = sift-same _ (λ ps. passes_both c k (flips s ps)) (packet_list c limit s) (λ ps h. sym (listed_passes ps h))

  -- ---- the verdict on a packet that does not pass ----

  says : passes_both c k s ≡ false → {xs : List (List ℕ)} → leading c k limit s ≡ xs → verdict c k limit s ≡ settled xs
  says h d = unpassed c k limit s h ∙ ap settled (candidates-leading ∙ d)

  said_of : (v : Said) → (v ≡ intact → ⊥) → verdict c k limit s ≡ v → (passes_both c k s ≡ false) × (settled (leading c k limit s) ≡ v)
  said_of v other h = rw candidates-leading at (unless_intact c k limit s v other h)

  -- none exactly when no listed set leads to a passing packet
  pub verdict_nothing : verdict c k limit s ≡ nothing ↔ ((passes_both c k s ≡ false) × ((ps : List ℕ) → Leads c k limit s ps → ⊥))
  verdict_nothing = (
    λ h.
        let r = said_of nothing (λ e. zero_not_one cc) h in
        (r.0, λ ps l. in_nothing (rw (nothing_none (leading c k limit s) r.1) at ((in_leading c k limit s ps).1 l))),
    λ h. says h.0 (no_member (leading c k limit s) (λ ps i. h.1 ps ((in_leading c k limit s ps).0 i))),
  )

  -- repaired exactly when just one does, and with that one
  pub verdict_repaired : (p : List ℕ) → verdict c k limit s ≡ repaired p
      ↔ ((passes_both c k s ≡ false) × Leads c k limit s p × ((q : List ℕ) → Leads c k limit s q → q ≡ p))
  verdict_repaired p = (
    λ h.
        let r = said_of (repaired p) (λ e. zero_not_one cc) h in
        let one = repaired_one (leading c k limit s) p r.1 in
        (r.0, (in_leading c k limit s p).0 (rw one (here refl)), λ q l. only_member (rw one at ((in_leading c k limit s q).1 l))),
    λ h.
        says h.0
        (only_one (leading_sorted c k limit s) ((in_leading c k limit s p).1 h.1) (λ q i. h.2 q ((in_leading c k limit s q).0 i))),
  )

  -- several exactly when more than one does, with their number and the earliest of them
  pub verdict_several : (n : ℕ) (q : List ℕ) → verdict c k limit s ≡ several n q
      ↔ ((passes_both c k s ≡ false) × (2 ≤ length (leading c k limit s)) × (n ≡ length (leading c k limit s)) × Earliest (Leads c k limit s) q)
  verdict_several n q =
      let more = several_more (leading c k limit s) (leading_sorted c k limit s) n q in
      let leads = earliest_same (in_leading c k limit s) q in (
        λ h.
            let r = said_of (several n q) (λ e. zero_not_one cc) h in
            let m = more.0 r.1 in
            (r.0, m.0, m.1, leads.0 m.2),
        λ h. says h.0 refl ∙ more.1 (h.1, h.2, leads.1 h.3),
      )
