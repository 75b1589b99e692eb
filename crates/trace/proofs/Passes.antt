-- The passes over whole traces: what holds at the head of each loop. Assumes nothing.
use mathlib.Core.Path.{◌≡◌, refl, sym, ap, ap₂, ◌∙◌, subst}
use mathlib.Core.List.{List, [], ◌∷◌, ◌++◌, append_assoc, append-nil}
use Prim.Native.Nat.{ℕ, ◌+◌, ◌-◌, ◌*◌, ◌≤◌, ◌<◌}
use native.Mathlib.Nat.{zero-add, add-zero, add_assoc, suc-add, add-suc, le_of_eq}
use native.Mathlib.Numerals.{add-one}
use native.Mathlib.Omega.{arith}
use lib.ListN.{length, get_or, take, drop, set, length-drop, length-append, take-append-drop, drop_of_length-le}
use lib.Seq.{drop-drop, drop-cons, take-suc-set, length-take-le, take_all, take_at, drop_at}
use Rattle.trace.specs.Answer.{Answer, value, refused}
use Rattle.trace.specs.Record.{Item, word, end, read_record, written}
use Rattle.trace.specs.Whole.{write_all, write_trace, after, placed, read_at, read_rest, read_trace, counted}
use Rattle.trace.proofs.Lists.{part-rest}
use Rattle.trace.proofs.Reading.{at-drop}
use Rattle.trace.proofs.Clash.{clash}
use Rattle.trace.proofs.Writing.{written-le}
use Rattle.trace.proofs.Traces.{word-length, rest-word, rest_end, rest-refused}

placed-value : (at : ℕ) (a : Answer Item) (x : Item) → placed at a ≡ value x → a ≡ value x
placed-value at (value y) x e = e
placed-value at (refused number place) x e = clash (cc)

-- what is read at a position within a trace is read from the bytes there on
read_is : (trace : List ℕ) (at before : ℕ) (x : Item) → at ≤ length trace → value x ≡ read_at trace at before → read_record (drop at trace) before ≡ value x
read_is trace at before x h e = placed-value at _ x (sym (at-drop trace at before h) ∙ sym e)

-- a record that is read lies within the trace
word-within : (trace : List ℕ) (at before w k : ℕ) → at ≤ length trace → read_record (drop at trace) before ≡ value (word w k)
    → (0 < k) × (at + k ≤ length trace)
word-within trace at before w k h e =
    let p = word-length (drop at trace) before w k e in
    (p.0, omega (arith, p.1, length-drop at trace))

step-word : (trace : List ℕ) (at before w k : ℕ) → read_record (drop at trace) before ≡ value (word w k)
    → read_rest at (drop at trace) before ≡ after w (read_rest (at + k) (drop (at + k) trace) w)
step-word trace at before w k e = rest-word at (drop at trace) before w k e ∙ rw drop-drop

-- ---- counting the words of a trace

abbrev more_than : ℕ → Answer (List ℕ) → Answer ℕ
more_than n (value ws) = value (n + length ws)
more_than n (refused number place) = refused number place

more-none : (r : Answer (List ℕ)) → counted r ≡ more_than 0 r
more-none (value ws) = ap value (sym (zero-add (length ws)))
more-none (refused number place) = refl

more-after : (n w : ℕ) (r : Answer (List ℕ)) → more_than n (after w r) ≡ more_than (n + 1) r
more-after n w (value ws) = ap value (rw (add-suc, add-one, suc-add))
more-after n w (refused number place) = refl

-- n words were read before `at`
pub record Counting (trace : List ℕ) (at before n : ℕ) : Type 0 where
  pub within : at ≤ length trace
  pub slow : n ≤ at
  pub same : counted (read_trace trace) ≡ more_than n (read_rest at (drop at trace) before)

pub counting-none : (trace : List ℕ) → Counting trace 0 0 0
unfolding read_trace
counting-none trace = record { within = omega arith; slow = omega arith; same = more-none (read_rest 0 trace 0) }

module _ (trace : List ℕ) (at before n : ℕ) (m : Counting trace at before n) where
  pub counting-word : (w k : ℕ) → value (word w k) ≡ read_at trace at before → Counting trace (at + k) w (n + 1)
  counting-word w k a =
      let e = read_is trace at before (word w k) m.within a in
      let p = word-within trace at before w k m.within e in record {
        within = p.1;
        slow = omega (arith, m.slow, p.0);
        same = m.same ∙ ap (more_than n) (step-word trace at before w k e) ∙ more-after n w (read_rest (at + k) (drop (at + k) trace) w);
      }

  pub counting-end : value end ≡ read_at trace at before → value n ≡ counted (read_trace trace)
  counting-end a = sym (m.same ∙ ap (more_than n) (rest_end at (drop at trace) before (read_is trace at before end m.within a)) ∙ ap value (add-zero n))

  pub counting-refused : (number place : ℕ) → refused number place ≡ read_at trace at before → refused number place ≡ counted (read_trace trace)
  counting-refused number place e = go (read_record (drop at trace) before) refl (e ∙ at-drop trace at before m.within)
    where
      go : (a : Answer Item) → read_record (drop at trace) before ≡ a → refused number place ≡ placed at a → refused number place ≡ counted (read_trace trace)
      go (value x) f p = clash (cc)
      go (refused why from) f p = let h = m.same ∙ ap (more_than n) (rest-refused at (drop at trace) before why from f) in cc (h, p)

-- ---- storing the words of a trace

abbrev behind : List ℕ → Answer (List ℕ) → Answer (List ℕ)
behind ws (value us) = value (ws ++ us)
behind ws (refused number place) = refused number place

behind-nil : (r : Answer (List ℕ)) → r ≡ behind [] r
behind-nil (value us) = refl
behind-nil (refused number place) = refl

behind-after : (ws : List ℕ) (w : ℕ) (r : Answer (List ℕ)) → behind ws (after w r) ≡ behind (ws ++ (w ∷ [])) r
behind-after ws w (value us) = ap value (sym (append_assoc ws (w ∷ []) us))
behind-after ws w (refused number place) = refl

-- the first i words are stored
pub record Filling (trace words : List ℕ) (at before i : ℕ) : Type 0 where
  pub within : at ≤ length trace
  pub same : read_trace trace ≡ behind (take i words) (read_rest at (drop at trace) before)

none_left : (r : Answer (List ℕ)) (ws : List ℕ) (rest : Answer (List ℕ)) (n : ℕ) → r ≡ behind ws rest → counted r ≡ value n → length ws ≡ n → r ≡ value ws
none_left r ws (value []) n e c l = e ∙ ap value (append-nil ws)
none_left r ws (value (u ∷ us)) n e c l =
    let k : value (length (ws ++ u ∷ us)) ≡ value n = sym (ap counted e) ∙ c in
    let j : length (ws ++ u ∷ us) ≡ n = cc in
    absurd (omega (arith, j, l, length-append ws (u ∷ us)))
none_left r ws (refused number place) n e c l = clash (cc (ap counted e))

pub filling-none : (trace lent : List ℕ) → Filling trace lent 0 0 0
unfolding read_trace
filling-none trace lent = record { within = omega arith; same = behind-nil (read_rest 0 trace 0) }

module _ (trace words : List ℕ) (at before i : ℕ) (m : Filling trace words at before i) where
  pub filling-word : (w k : ℕ) → i < length words → value (word w k) ≡ read_at trace at before → Filling trace (set words i w) (at + k) w (i + 1)
  filling-word w k h a =
      let e = read_is trace at before (word w k) m.within a in
      let p = word-within trace at before w k m.within e in rw (add-one i) record {
        within = p.1;
        same = m.same ∙ ap (behind (take i words)) (step-word trace at before w k e)
            ∙ behind-after (take i words) w (read_rest (at + k) (drop (at + k) trace) w)
            ∙ ap (λ (l : List ℕ). behind l (read_rest (at + k) (drop (at + k) trace) w)) (sym (take-suc-set words i w h));
      }

  module _ (n : ℕ) (many : counted (read_trace trace) ≡ value n) (long : length words ≡ n) where
    filling-end : i < n → read_record (drop at trace) before ≡ value end → ⊥
    filling-end h e =
        let all : read_trace trace ≡ value (take i words) = m.same ∙ rw (rest_end at (drop at trace) before e, append-nil) in
        let l : value (length (take i words)) ≡ value n = sym (ap counted all) ∙ many in
        let k : length (take i words) ≡ n = cc in
        omega (arith, k, length-take-le i words (omega (arith, long)))

    -- while words are missing, the trace is not at its end, and its next record is not refused
    pub filling-no-end : i < n → value end ≡ read_at trace at before → ⊥
    filling-no-end h a = filling-end h (read_is trace at before end m.within a)

    pub filling-not-refused : (number place : ℕ) → refused number place ≡ read_at trace at before → ⊥
    filling-not-refused number place e = go (read_record (drop at trace) before) refl (e ∙ at-drop trace at before m.within)
      where
        go : (a : Answer Item) → read_record (drop at trace) before ≡ a → refused number place ≡ placed at a → ⊥
        go (value x) f p = clash (cc)
        go (refused why from) f p =
            let all : read_trace trace ≡ refused why at = m.same ∙ rw (rest-refused at (drop at trace) before why from f) in
            clash (cc (ap counted all))

    pub filling-done : n ≤ i → value words ≡ read_trace trace
    filling-done h =
        let l : take i words ≡ words = take_all i words (omega (arith, long)) in
        sym (none_left (read_trace trace) words (read_rest at (drop at trace) before) n (rw l at m.same) many long)

-- ---- measuring the trace of a list of words

drop-word : (words : List ℕ) (i before : ℕ) → i < length words
    → write_all before (drop i words) ≡ written before (get_or words i 0) ++ write_all (get_or words i 0) (drop (i + 1) words)
unfolding write_all
drop-word words i before h = rw (add-one i, drop-cons words i 0)

-- n bytes stand for the first i words
pub record Measuring (words : List ℕ) (n before i : ℕ) : Type 0 where
  pub within : i ≤ length words
  pub few : n ≤ 9 * i
  pub same : length (write_trace words) ≡ n + length (write_all before (drop i words))

pub measuring-none : (words : List ℕ) → Measuring words 0 0 0
unfolding write_trace
measuring-none words = record { within = omega arith; few = omega arith; same = sym (zero-add (length (write_all 0 words))) }

pub measuring-word : (words : List ℕ) (n before i k : ℕ) → Measuring words n before i → i < length words → k ≡ length (written before (get_or words i 0))
    → Measuring words (n + k) (get_or words i 0) (i + 1)
measuring-word words n before i k m h e = record {
  within = omega arith;
  few = omega (arith, m.few, e, written-le before (get_or words i 0));
  same = m.same ∙ rw (drop-word words i before h, length-append, ← e) (sym (add_assoc n k (length (write_all (get_or words i 0) (drop (i + 1) words)))));
}

pub measuring-done : (words : List ℕ) (n before i : ℕ) → Measuring words n before i → length words ≤ i → n ≡ length (write_trace words)
unfolding write_all
measuring-done words n before i m h =
    sym (m.same ∙ rw (drop_of_length-le words h) (add-zero n))

-- ---- writing the trace of a list of words

-- the records of the first i words stand in the first `at` bytes, and the rest is as it was lent
pub record PuttingAll (words lent out : List ℕ) (at before i : ℕ) : Type 0 where
  pub within : i ≤ length words
  pub long : length out ≡ length lent
  pub room : at ≤ length out
  pub kept : drop at out ≡ drop at lent
  pub same : write_trace words ≡ take at out ++ write_all before (drop i words)

pub putting-all-none : (words lent : List ℕ) → PuttingAll words lent lent 0 0 0
unfolding write_trace
putting-all-none words lent = record { within = omega arith; long = refl; room = omega arith; kept = refl; same = refl }

module _ (words lent out : List ℕ) (at before i : ℕ) (m : PuttingAll words lent out at before i) where
  pub putting-all-done : length words ≤ i → out ≡ write_trace words ++ drop (length (write_trace words)) lent
  unfolding write_all
  putting-all-done h =
      let w : write_trace words ≡ take at out = m.same ∙ rw (drop_of_length-le words h) (append-nil (take at out)) in
      let l : length (write_trace words) ≡ at = ap length w ∙ length-take-le at out m.room in
      sym (rw (l, w, ← m.kept) (take-append-drop at out))

  module _ (less : i < length words) (enough : length (write_trace words) ≤ length lent) where
    w : ℕ
    w = get_or words i 0

    rest : List ℕ
    rest = write_all w (drop (i + 1) words)

    next : write_trace words ≡ take at out ++ (written before w ++ rest)
    unfolding w rest
    next = m.same ∙ ap (λ (l : List ℕ). take at out ++ l) (drop-word words i before less)

    -- there is room for the next record
    put-room : at + length (written before (get_or words i 0)) ≤ length out
    unfolding w
    put-room =
        omega (
          arith,
          m.long,
          ap length next,
          length-append (take at out) (written before w ++ rest),
          length-append (written before w) rest,
          length-take-le at out m.room,
        )

    pub put-part-room : length (written before (get_or words i 0)) ≤ length (take (length out - at) (drop at out))
    put-part-room = rw (part-rest at out, length-drop at out) (omega (arith, put-room))

    -- the buffer with the next record of r bytes
    after-word : ℕ → List ℕ
    after-word r = (take at out ++ written before w) ++ drop (at + r) out

    putting-all-next : (r : ℕ) → r ≡ length (written before (get_or words i 0)) → PuttingAll words lent (after-word r) (at + r) (get_or words i 0) (i + 1)
    unfolding w rest after-word
    putting-all-next r e =
        let l : length (take at out ++ written before w) ≡ at + r = length-append (take at out) (written before w)
        ∙ ap₂ (λ (x y : ℕ). x + y) (length-take-le at out m.room) (sym e) in
        let n : length (after-word r) ≡ length out = length-append (take at out ++ written before w) (drop (at + r) out)
        ∙ rw (l, length-drop) (omega (arith, put-room, e)) in record {
          within = omega (arith, less);
          long = n ∙ m.long;
          room = omega (arith, n, put-room, e);
          kept = drop_at (take at out ++ written before w) (drop (at + r) out) (at + r) l
              ∙ sym (drop-drop r at out) ∙ ap (drop r) m.kept ∙ drop-drop r at lent;
          same = next ∙ sym (append_assoc (take at out) (written before w) rest)
              ∙ ap (λ (x : List ℕ). x ++ rest) (sym (take_at (take at out ++ written before w) (drop (at + r) out) (at + r) l));
        }

    -- `part` is what the part of the buffer from `at` on holds after the record
    pub putting-all-word : (r : ℕ) (part : List ℕ) → r ≡ length (written before (get_or words i 0))
        → part ≡ written before (get_or words i 0) ++ drop r (take (length out - at) (drop at out))
        → PuttingAll words lent (take at out ++ (part ++ drop (length out - at) (drop at out))) (at + r) (get_or words i 0) (i + 1)
    unfolding w after-word
    putting-all-word r part e p =
        let none : drop (length out - at) (drop at out) ≡ [] = drop_of_length-le (drop at out) (le_of_eq (length-drop at out)) in
        let new : take at out ++ (part ++ drop (length out - at) (drop at out)) ≡ after-word r
        = rw (none, append-nil part, p, part-rest at out, drop-drop r at out) (sym (append_assoc (take at out) (written before w) (drop (at + r) out))) in
        subst (λ (l : List ℕ). PuttingAll words lent l (at + r) (get_or words i 0) (i + 1)) (sym new) (putting-all-next r e)
