-- What reading does at a place of the input, in the terms of the code: the byte there, and the places after it.
use Rattle.std.proofs.Common.{◌≡◌, refl, ℕ, suc, ◌+◌, ◌-◌, ◌*◌, ◌<◌, ◌≤◌, List, [], ◌∷◌, Some, None, length, get_or, drop, arith, add-one, drop-cons, drop_of_length-le}
use Rattle.parsing.specs.Input.{Digit}
use Rattle.parsing.specs.Parsing.{read_from, read}
use Rattle.parsing.proofs.InputLaws.{read_digit, read_other, read_from_close, read_from_full, read_from_other, read_from_digit}

module _ (close : ℕ) where
  pub nothing_read : (s : List ℕ) → length s ≡ 0 → read close s ≡ None
  unfolding read
  nothing_read [] h = refl
  nothing_read (c ∷ cs) h = absurd (omega arith)

  pub other_read : (s : List ℕ) (c : ℕ) (rest : List ℕ) → s ≡ c ∷ rest → (Digit c → ⊥) → read close s ≡ None
  other_read s c rest e h = rw e (read_other close c rest h)

  pub digit_read : (s : List ℕ) (c : ℕ) (rest : List ℕ) → s ≡ c ∷ rest → Digit c → read close s ≡ read_from close 8 (c - 48) rest
  digit_read s c rest e h = rw e (read_digit close c rest h)

  module _ (room v : ℕ) (s : List ℕ) (i : ℕ) where
    pub end_read : length s ≤ i → read_from close room v (drop i s) ≡ None
    unfolding read_from
    end_read h = rw (drop_of_length-le s h)

    module _ (h : i < length s) where
      here : drop i s ≡ get_or s i 0 ∷ drop (i + 1) s
      here = rw (add-one, drop-cons s i 0)

      pub close_read : get_or s i 0 ≡ close → read_from close room v (drop i s) ≡ Some (v, drop (i + 1) s)
      close_read e = rw here (read_from_close close room v (get_or s i 0) (drop (i + 1) s) e)

      module _ (e : get_or s i 0 ≡ close → ⊥) where
        pub full_read : room ≡ 0 → read_from close room v (drop i s) ≡ None
        full_read z = rw (z, here) (read_from_full close v (get_or s i 0) (drop (i + 1) s) e)

        pub other_read_on : (Digit (get_or s i 0) → ⊥) → read_from close room v (drop i s) ≡ None
        other_read_on d = rw here (read_from_other close room v (get_or s i 0) (drop (i + 1) s) e d)

        pub digit_read_on : (less : ℕ) → room ≡ suc less → Digit (get_or s i 0)
            → read_from close room v (drop i s) ≡ read_from close less (v * 10 + (get_or s i 0 - 48)) (drop (i + 1) s)
        digit_read_on less r d = rw (r, here) (read_from_digit close less v (get_or s i 0) (drop (i + 1) s) e d)

pub ruleset reading = (nothing_read, other_read, digit_read, end_read, close_read, full_read, other_read_on, digit_read_on)
