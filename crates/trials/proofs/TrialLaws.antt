-- A trial: the column found by positions is the verdict's, and the parts come to the whole.
use mathlib.Core.Path.{◌≡◌, refl, sym, ap, ◌∙◌}
use mathlib.Core.Bool.{Bool, true≢false}
use mathlib.Core.List.{List}
use Prim.Native.Nat.{ℕ, ◌*◌}
use lib.ListN.{length}
use Rattle.base.specs.Lists.{Ascending}
use Rattle.base.specs.Outcome.{pick}
use Rattle.base.proofs.Cases.{by_test}
use Rattle.poly.specs.Fit.{Fit}
use Rattle.packet.specs.Packet.{Bytes, bits, remainder, flips, difference}
use Rattle.packet.specs.declared.Crc.{Crc}
use Rattle.packet.proofs.DifferenceLaws.{difference-flips, flips_differ, flips_twice}
use Rattle.checksum.specs.declared.Check.{Check}
use Rattle.maker.specs.Stream.{state_after}
use Rattle.maker.specs.Calls.{made}
use Rattle.channel.specs.Channel.{drawn}
use Rattle.patterns.proofs.ListingLaws.{listed_iff}
use Rattle.verdicts.specs.Verdicts.{Said, intact, repaired, several, nothing, verdict, output_for}
use Rattle.verdicts.proofs.VerdictLaws.{verdict_repaired}
use Rattle.trials.specs.Trials.{same, column, counted, received, trial}
use Rattle.trials.specs.Running.{column_by, tried}
use Rattle.trials.proofs.SameLaws.{same_true, true_same, same_false}

-- ---- the column ----

module _ (s t ps : List ℕ) (bt : Bytes t) (bs : Bytes s) (ascends : Ascending (bits t) 0 ps) (received : s ≡ flips t ps) where
  -- a set makes the packet made of the one received just if it is what was flipped
  back_by : (p : List ℕ) → p ≡ ps → flips s p ≡ t
  back_by p e = ap (flips s) e ∙ ap (λ (l : List ℕ). flips l ps) received ∙ flips_twice t ps bt ascends

  only_back_by : (p : List ℕ) → Ascending (bits s) 0 p → flips s p ≡ t → p ≡ ps
  only_back_by p a e =
      sym (difference-flips s p bs a)
      ∙ ap (difference s) e
      ∙ ap (λ (l : List ℕ). difference l t) received
      ∙ flips_differ t ps bt ascends

  same_back : (p : List ℕ) → Ascending (bits s) 0 p → same p ps ≡ same (flips s p) t
  same_back p a =
      by_test (same p ps)
      (λ e. e ∙ sym (true_same (flips s p) t (back_by p (same_true p ps e))))
      (λ e. e ∙ sym (same_false (flips s p) t (λ h. true≢false (sym (true_same p ps (only_back_by p a h)) ∙ e))))

  column-said : (v : Said) → ((p : List ℕ) → v ≡ repaired p → Ascending (bits s) 0 p) → column_by v ps ≡ column v s t
  column-said intact a = refl
  column-said (repaired p) a = ap (λ (b : Bool). pick b 1 2) (same_back p (a p refl))
  column-said (several n p) a = refl
  column-said nothing a = refl

  pub column-found : (c : Crc) (k : Check) (limit : ℕ) → Fit c.generator → column_by (verdict c k limit s) ps ≡ column (verdict c k limit s) s t
  column-found c k limit fit =
      column-said (verdict c k limit s)
      (λ p e. ((listed_iff c.generator.degree c.generator.coefficients (bits s) limit (remainder c s) p).0 ((verdict_repaired c k limit s fit bs p).0 e).1.listed).0)

-- ---- a trial, by its parts ----

pub received_is : (c : Crc) (k : Check) (len f x : ℕ) → received c k len f x ≡ flips (made c x k len) (drawn (8 * len) f (state_after len x))
unfolding received
received_is c k len f x = refl

pub trial_met : (c : Crc) (k : Check) (limit f seed : ℕ) (packet output : List ℕ) (counts : List (List ℕ)) {x col : ℕ} {p o : List ℕ}
    → x ≡ state_after f (state_after (length packet) seed)
    → p ≡ received c k (length packet) f seed
    → o ≡ output_for c k limit p output
    → col ≡ column (verdict c k limit p) p (made c seed k (length packet))
    → tried x p o (counted f col counts) ≡ trial c k limit f (tried seed packet output counts)
unfolding trial
trial_met c k limit f seed packet output counts e₁ e₂ e₃ e₄ = rw (e₁, e₃, e₄, e₂)
