-- Whole traces: reading on record by record, there and back, and no two traces that read alike. Assumes nothing.
use mathlib.Core.Path.{◌≡◌, refl, sym, ap, ap₂, ◌∙◌, subst}
use mathlib.Core.List.{List, [], ◌∷◌, ◌++◌}
use Prim.Native.Nat.{ℕ, zero, suc, ◌+◌, ◌≤◌, ◌<◌}
use native.Mathlib.Nat.{le_refl}
use native.Mathlib.Omega.{arith}
use lib.Dec.{ltb}
use lib.ListN.{length, drop, length-drop}
use lib.Seq.{drop-append_seam, get_or-drop}
use borrow.Author.Tests.{ltb-false}
use Rattle.trace.specs.Answer.{Answer, value, refused}
use Rattle.trace.specs.Record.{Item, word, end, count, merged, idle, read_record, written}
use Rattle.trace.specs.Whole.{Bytes, Words, write_all, write_trace, after, go_on, read_on, read_rest, read_trace}
use Rattle.trace.proofs.Clash.{clash}
use Rattle.trace.proofs.Exact.{end-exactly}
use Rattle.trace.proofs.RoundTrip.{judged-word, read-written, read-canonical}

-- ---- a step

-- a record has at least its map byte, and all of its bytes
pub word-length : (s : List ℕ) (before w n : ℕ) → read_record s before ≡ value (word w n) → (0 < n) × (n ≤ length s)
unfolding read_record
word-length [] before w n e = clash (cc)
word-length (map ∷ given) before w n e =
    let j = judged-word (ltb (length given) (count 8 map)) (idle 8 before map given) (merged before map given) (1 + count 8 map) w n e in
    (omega (arith, j.3), omega (arith, j.3, ltb-false (length given) (count 8 map) j.0))

go_on-same : (at : ℕ) (r : Answer Item) (f g : ℕ → ℕ → Answer (List ℕ)) → ((w n : ℕ) → r ≡ value (word w n) → f n w ≡ g n w) → go_on at r f ≡ go_on at r g
go_on-same at (value (word w n)) f g e = ap (after w) (e w n refl)
go_on-same at (value end) f g e = refl
go_on-same at (refused number place) f g e = refl

-- rounds enough are rounds enough
rounds-same : (j k at : ℕ) (s : List ℕ) (before : ℕ) → length s ≤ j → length s ≤ k → read_on j at s before ≡ read_on k at s before
unfolding read_on read_record
rounds-same zero zero at s before h l = refl
rounds-same zero (suc k) at [] before h l = refl
rounds-same zero (suc k) at (x ∷ s) before h l = absurd (omega arith)
rounds-same (suc j) zero at [] before h l = refl
rounds-same (suc j) zero at (x ∷ s) before h l = absurd (omega arith)
rounds-same (suc j) (suc k) at s before h l =
    go_on-same at (read_record s before) (λ n w. read_on j (at + n) (drop n s) w) (λ n w. read_on k (at + n) (drop n s) w)
    (λ w n e. let p = word-length s before w n e in
    rounds-same j k (at + n) (drop n s) w (rw length-drop (omega arith)) (rw length-drop (omega arith)))

module _ (at : ℕ) (s : List ℕ) (before : ℕ) where
  next : ℕ → ℕ → Answer (List ℕ)
  next n w = read_rest (at + n) (drop n s) w

  -- reading on is one record and then reading on from where it ended
  rest-step : read_rest at s before ≡ go_on at (read_record s before) next
  unfolding read_rest read_on next
  rest-step =
      rounds-same (length s) (suc (length s)) at s before (le_refl _) (omega arith)
      ∙ go_on-same at (read_record s before) (λ n w. read_on (length s) (at + n) (drop n s) w) next
      (λ w n e. rounds-same (length s) (length (drop n s)) (at + n) (drop n s) w (rw length-drop (omega arith)) (le_refl _))

  step_by : (r : Answer Item) → read_record s before ≡ r → read_rest at s before ≡ go_on at r next
  step_by r e = rest-step ∙ ap (λ (x : Answer Item). go_on at x next) e

  pub rest-word : (w n : ℕ) → read_record s before ≡ value (word w n) → read_rest at s before ≡ after w (read_rest (at + n) (drop n s) w)
  unfolding next
  rest-word w n e = step_by (value (word w n)) e

  pub rest_end : read_record s before ≡ value end → read_rest at s before ≡ value []
  rest_end e = step_by (value end) e

  pub rest-refused : (number place : ℕ) → read_record s before ≡ refused number place → read_rest at s before ≡ refused number at
  rest-refused number place e = step_by (refused number place) e

-- ---- there and back

read_all : (ws : List ℕ) (at before : ℕ) → Words ws → read_rest at (write_all before ws) before ≡ value ws
unfolding write_all
read_all [] at before small = rest_end at [] before ((end-exactly [] before).1 refl)
read_all (w ∷ ws) at before small =
    rest-word at (written before w ++ write_all w ws) before w (length (written before w)) (read-written before w (write_all w ws) (small 0))
    ∙ rw (drop-append_seam, read_all ws (at + length (written before w)) w (λ i. small (suc i)))

-- (a) Reading what the writer wrote for a list of words gives back that list, and ends.
pub read-write : (ws : List ℕ) → Words ws → read_trace (write_trace ws) ≡ value ws
unfolding read_trace write_trace
read-write ws small = read_all ws 0 0 small

-- ---- no two traces read alike

after-nil : (w : ℕ) (r : Answer (List ℕ)) → after w r ≡ value [] → ⊥
after-nil w (value ws) e = clash (cc)
after-nil w (refused number place) e = clash (cc)

after-cons : (w v : ℕ) (ws : List ℕ) (r : Answer (List ℕ)) → after w r ≡ value (v ∷ ws) → (w ≡ v) × (r ≡ value ws)
after-cons w v ws (value us) e = ((cc), (cc))
after-cons w v ws (refused number place) e = clash (cc)

module _ (s : List ℕ) (at before : ℕ) where
  no_words : read_rest at s before ≡ value [] → (r : Answer Item) → read_record s before ≡ r → s ≡ []
  no_words e (value (word w n)) q = absurd (after-nil w (read_rest (at + n) (drop n s) w) (sym (rest-word at s before w n q) ∙ e))
  no_words e (value end) q = (end-exactly s before).0 q
  no_words e (refused number place) q = clash (cc (rest-refused at s before number place q))

  some_words : (v : ℕ) (ws : List ℕ) → Bytes s → read_rest at s before ≡ value (v ∷ ws)
      → ((n : ℕ) → read_rest (at + n) (drop n s) v ≡ value ws → drop n s ≡ write_all v ws)
      → (r : Answer Item) → read_record s before ≡ r → s ≡ written before v ++ write_all v ws
  some_words v ws bytes e rest (value (word w n)) q =
      let k = after-cons w v ws (read_rest (at + n) (drop n s) w) (sym (rest-word at s before w n q) ∙ e) in
      (read-canonical s before w n bytes q).0
      ∙ ap₂ (λ (x : ℕ) (l : List ℕ). written before x ++ l) k.0
      (rest n (subst (λ (x : ℕ). read_rest (at + n) (drop n s) x ≡ value ws) k.0 k.1))
  some_words v ws bytes e rest (value end) q = clash (cc (rest_end at s before q))
  some_words v ws bytes e rest (refused number place) q = clash (cc (rest-refused at s before number place q))

-- What reads as a list of words is what the writer writes for them.
write-all : (ws s : List ℕ) (at before : ℕ) → Bytes s → read_rest at s before ≡ value ws → s ≡ write_all before ws
unfolding write_all
write-all [] s at before bytes e = no_words s at before e (read_record s before) refl
write-all (v ∷ ws) s at before bytes e =
    some_words s at before v ws bytes e
    (λ n f. write-all ws (drop n s) (at + n) v (λ i. subst (λ (x : ℕ). x < 256) (sym (get_or-drop n s i 0)) (bytes (n + i))) f) (read_record s before) refl

pub write_read : (s ws : List ℕ) → Bytes s → read_trace s ≡ value ws → s ≡ write_trace ws
unfolding read_trace write_trace
write_read s ws bytes e = write-all ws s 0 0 bytes e

-- (b) Two traces that are read to the end without refusal and give the same words are the same bytes.
pub read-unique : (s t ws : List ℕ) → Bytes s → Bytes t → read_trace s ≡ value ws → read_trace t ≡ value ws → s ≡ t
read-unique s t ws p q e f = write_read s ws p e ∙ sym (write_read t ws q f)
