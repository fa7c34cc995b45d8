-- The position at a place among those not yet taken: it is the place and the number of positions taken below it together, and putting it
-- in there keeps those taken ascending.
use mathlib.Core.Path.{◌≡◌, refl, sym, ap, ap₂, ◌∙◌}
use mathlib.Core.Bool.{false}
use mathlib.Core.List.{List, [], ◌∷◌, ◌++◌}
use Prim.Native.Nat.{ℕ, zero, suc, ◌+◌, ◌-◌, ◌<◌, ◌≤◌}
use native.Mathlib.Nat.{zero-add, add-zero, suc-add}
use native.Mathlib.Omega.{arith}
use borrow.Author.Tests.{lt-ltb, le-ltb, eq-eqb, ne_eqb}
use lib.Dec.{ltb}
use lib.ListN.{length, get_or, take, drop}
use lib.Seq.{get_or_at}
use Rattle.base.specs.Lists.{Ascending, ends, next}
use Rattle.base.proofs.Cases.{by_test, by_order, by_equal}
use Rattle.base.proofs.ListLaws.{ascending_on}
use Rattle.patterns.specs.Listing.{inserted}
use Rattle.channel.specs.Channel.{among, untaken}
use Rattle.channel.specs.Taking.{Between, Gap}

-- ---- between the first r of some positions and the others ----

-- the same of the others, once the first is left out
between_rest : {p r t : ℕ} {ts : List ℕ} → Between p (suc r) (t ∷ ts) → Between p r ts
between_rest b =
    record { within = omega (arith, b.within); lower = λ j h. b.lower (suc j) (omega arith); higher = λ j h k. b.higher (suc j) (omega arith) (omega arith) }

pub inserted_between : {p r : ℕ} (ts : List ℕ) → Between p r ts → inserted ltb p ts ≡ take r ts ++ p ∷ drop r ts
unfolding inserted
inserted_between {r = zero} [] b = refl
inserted_between {r = suc r} [] b = absurd (omega (arith, b.within))
inserted_between {p} {r = zero} (t ∷ ts) b = rw (lt-ltb p t (b.higher 0 (omega arith) (omega arith)))
inserted_between {p} {r = suc r} (t ∷ ts) b =
    let h = b.lower 0 (omega arith) in
    rw (le-ltb p t (omega arith), lt-ltb t p h) (ap (λ (l : List ℕ). t ∷ l) (inserted_between ts (between_rest b)))

-- the same of a number of another spelling
pub put_between : {p q r : ℕ} (ts : List ℕ) → q ≡ p → Between p r ts → take r ts ++ q ∷ drop r ts ≡ inserted ltb p ts
put_between {r = r} ts e b = ap (λ (n : ℕ). take r ts ++ n ∷ drop r ts) e ∙ sym (inserted_between ts b)

pub between_ascends : {l from p r : ℕ} {ts : List ℕ} → Ascending l from ts → Between p r ts → from ≤ p → p < l → Ascending l from (take r ts ++ p ∷ drop r ts)
between_ascends {r = zero} ends b h k = next h k ends
between_ascends {r = suc r} ends b h k = absurd (omega (arith, b.within))
between_ascends {p} {r = zero} (next {p = t} i j a) b h k = let over : suc p ≤ t = b.higher 0 (omega arith) (omega arith) in next h k (next over j a)
between_ascends {p} {r = suc r} (next {p = t} i j a) b h k =
    let under : suc t ≤ p = b.lower 0 (omega arith) in
    next i j (between_ascends a (between_rest b) under k)

pub between_length : {p r : ℕ} (ts : List ℕ) → Between p r ts → length (take r ts ++ p ∷ drop r ts) ≡ suc (length ts)
between_length {r = zero} ts b = refl
between_length {r = suc r} [] b = absurd (omega (arith, b.within))
between_length {r = suc r} (t ∷ ts) b = ap suc (between_length ts (between_rest b))

-- ---- such a place exists, and where a search meets it ----

pub gap_met : {l r : ℕ} {ts : List ℕ} (place : ℕ) → Ascending l 0 ts → r ≤ length ts → ((j : ℕ) → j < r → get_or ts j 0 ≤ place + j)
    → (r < length ts → place + r < get_or ts r 0) → Gap place r ts
gap_met {r = r} place a h low high =
    record {
      within = h;
      lower = λ j k. omega (arith, low j k);
      higher = λ j k m. omega (arith, high (omega arith), ascending_on a r j k m);
    }

gap_more : {place r t : ℕ} {ts : List ℕ} → t ≤ place → Gap (suc place) r ts → Gap place (suc r) (t ∷ ts)
gap_more {place} {r} {t} {ts} h b = record { within = omega (arith, b.within); lower = low; higher = high }
  where
    low : (j : ℕ) → j < suc r → get_or (t ∷ ts) j 0 < place + suc r
    low zero k = omega arith
    low (suc j) k = omega (arith, b.lower j (omega arith))

    high : (j : ℕ) → suc r ≤ j → j < suc (length ts) → place + suc r < get_or (t ∷ ts) j 0
    high zero k n = absurd (omega arith)
    high (suc j) k n = omega (arith, b.higher j (omega arith) (omega arith))

pub gap_exists : {l from : ℕ} {ts : List ℕ} (place : ℕ) → Ascending l from ts → (r : ℕ) × Gap place r ts
gap_exists place ends = (0, record { within = omega arith; lower = λ j h. absurd (omega arith); higher = λ j h k. absurd (omega arith) })
gap_exists {l} {from} place (next {p = t} {ps = ts} i j a) =
    by_order place t
    (λ h. (
      0,
      record {
        within = omega arith;
        lower = λ m k. absurd (omega arith);
        higher = λ m k n. let w : Ascending l from (t ∷ ts) = next i j a in omega (arith, ascending_on w 0 m (omega arith) n);
      },
    ))
    (λ h. let g = gap_exists (suc place) a in (suc g.0, gap_more h g.1))

-- ---- the position at a place among those not yet taken ----

not_among : {p : ℕ} (ts : List ℕ) → ((j : ℕ) → j < length ts → p ≡ get_or ts j 0 → ⊥) → among p ts ≡ false
unfolding among
not_among [] h = refl
not_among {p} (t ∷ ts) h = rw (ne_eqb p t (h 0 (omega arith))) (not_among ts (λ j k. h (suc j) (omega arith)))

-- a position that was taken further down makes no difference
untaken_past : {t : ℕ} (ts : List ℕ) (room from : ℕ) → t < from → untaken (t ∷ ts) room from ≡ untaken ts room from
unfolding untaken among
untaken_past ts zero from h = refl
untaken_past {t = t} ts (suc room) from h = rw (ne_eqb from t (λ e. omega arith), untaken_past {t = t} ts room (suc from) (omega arith))

-- a position below all that are taken is not
ascending_free : {l from p : ℕ} {ts : List ℕ} → p < from → Ascending l from ts → among p ts ≡ false
unfolding among
ascending_free h ends = refl
ascending_free {p = p} h (next {p = t} i j a) = let low : p < suc t = omega arith in rw (ne_eqb p t (λ e. omega arith)) (ascending_free low a)

-- of the positions from `from` on and below p as many are not taken as those that are leave
untaken_below : {l p r : ℕ} (ts : List ℕ) (room from : ℕ) → Ascending l from ts → Between p r ts → p ≡ from + room → length (untaken ts room from) + r ≡ room
unfolding untaken among
untaken_below {r = suc r} [] room from a b e = absurd (omega (arith, b.within))
untaken_below {r = zero} ts zero from a b e = refl
untaken_below {r = suc r} (t ∷ ts) zero from (next i j a) b e = absurd (omega (arith, b.lower 0 (omega arith)))
untaken_below {l} {r = zero} [] (suc room) from a b e = omega (arith, untaken_below {l = l} [] room (suc from) ends b (omega arith))
untaken_below {l} {r = zero} (t ∷ ts) (suc room) from (next i j a) b e =
    let over : suc from ≤ t = omega (arith, b.higher 0 (omega arith) (omega arith)) in
    let w : Ascending l (suc from) (t ∷ ts) = next over j a in
    let free : among from (t ∷ ts) ≡ false = ascending_free (omega arith) w in
    rw free (omega (arith, untaken_below (t ∷ ts) room (suc from) w b (omega arith)))
untaken_below {l} {r = suc r} (t ∷ ts) (suc room) from (next i j a) b e =
    by_equal from t
    (λ h.
    let up : Ascending l (suc from) ts = rw h a in
    rw (eq-eqb from t h, untaken_past {t = t} ts room (suc from) (omega arith)) (omega (arith, untaken_below ts room (suc from) up (between_rest b) (omega arith))))
    (λ h.
    let over : suc from ≤ t = omega arith in
    let w : Ascending l (suc from) (t ∷ ts) = next over j a in
    let free : among from (t ∷ ts) ≡ false = ascending_free (omega arith) w in
    rw free (omega (arith, untaken_below (t ∷ ts) room (suc from) w b (omega arith))))

untaken-append : (ts : List ℕ) (a b from : ℕ) → untaken ts (a + b) from ≡ untaken ts a from ++ untaken ts b (from + a)
unfolding untaken
untaken-append ts zero b from = ap₂ (untaken ts) (zero-add b) (sym (add-zero from))
untaken-append ts (suc a) b from =
    let rest : untaken ts (a + b) (suc from) ≡ untaken ts a (suc from) ++ untaken ts b (from + suc a) =
    untaken-append ts a b (suc from) ∙ ap (λ (m : ℕ). untaken ts a (suc from) ++ untaken ts b m) (omega arith) in
    ap (λ (m : ℕ). untaken ts m from) (suc-add a b)
    ∙ by_test (among from ts) (λ h. rw h rest) (λ h. rw h (ap (λ (l : List ℕ). from ∷ l) rest))

pub untaken_at : {l p r : ℕ} (place : ℕ) (ts : List ℕ) → Ascending l 0 ts → Between p r ts → p ≡ place + r → p < l → get_or (untaken ts l 0) place 0 ≡ p
unfolding untaken
untaken_at {l} {p} {r} place ts a b e h =
    let rest : ℕ = l - suc p in
    let whole : p + suc rest ≡ l = omega arith in
    let free : among p ts ≡ false = not_among ts (λ j k same. by_order j r (λ w. omega (arith, b.lower j w)) (λ w. omega (arith, b.higher j w k))) in
    let below : length (untaken ts p 0) ≡ place = omega (arith, untaken_below ts p 0 a b (omega arith)) in
    let here : untaken ts (suc rest) (0 + p) ≡ p ∷ untaken ts rest (suc p) = rw (zero-add p, free) in
    ap (λ (m : ℕ). get_or (untaken ts m 0) place 0) (sym whole)
    ∙ ap (λ (u : List ℕ). get_or u place 0) (untaken-append ts p (suc rest) 0 ∙ ap (λ (u : List ℕ). untaken ts p 0 ++ u) here)
    ∙ get_or_at (untaken ts p 0) p (untaken ts rest (suc p)) 0 place below
