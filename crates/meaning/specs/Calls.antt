-- The replies to a list of calls, looks and takes, on one watch from its opening on (docs/REFERENCE.md, W1 to W12).
use Rattle.std.specs.Prelude.{List, [], ◌∷◌, ◌++◌, map, Bool, true, false, not, cond, ◌≡◌, ◌↔◌, ℕ, suc, ◌^◌, ◌≤◌, ◌<◌, T, leb, length, take as up_to, get_or}
use Rattle.meaning.specs.Lists.{any, count, only}
use Rattle.refusals.specs.Numbers as number
use Rattle.meaning.specs.Expression.{Exp}
use Rattle.meaning.specs.Touched.{touched}
use Rattle.meaning.specs.Names.{Limit}
use Rattle.meaning.specs.Fit.{Verdict, ok as clean, bad as broken, History, start, onward, history}
use Rattle.meaning.specs.Limits.{judged}

-- W2: "A call is a look or a take, and hands over a watch and a 64-bit word"
pub data Call : Type 0 where
  look : (word : ℕ) → Call
  take : (word : ℕ) → Call

abbrev pub word_of : Call → ℕ
word_of (look w) = w
word_of (take w) = w

-- W2: "The answer is ok, bad with the number of a monitor or a limit, or refused with a number". X12: a refused call "by itself" has place 0.
pub data Reply : Type 0 where
  ok : Reply
  bad : (number : ℕ) → Reply
  refused : (number place : ℕ) → Reply

abbrev pub reply_of : Verdict → Reply
reply_of clean = ok
reply_of (broken m) = bad m

abbrev pub is_ok : Reply → Bool
is_ok ok = true
is_ok (bad m) = false
is_ok (refused n p) = false

abbrev pub is_bad : Reply → Bool
is_bad ok = false
is_bad (bad m) = true
is_bad (refused n p) = false

abbrev pub is_refused : Reply → Bool
is_refused ok = false
is_refused (bad m) = false
is_refused (refused n p) = true

-- N6: "ticks of a watch | 1,000,000"
abbrev pub most_ticks : ℕ
most_ticks = 1000000

-- W4: "1,000,000 earlier takes were ok"
abbrev pub is_full : (oks : ℕ) → Bool
is_full oks = leb most_ticks oks

-- W5: "the word has a bit above the wires: it is 2^k or more, k being the text's number of wires"
abbrev pub is_stray : (wires word : ℕ) → Bool
is_stray wires w = leb (2 ^ wires) w

-- What stands between two calls: what the next word is judged by, how many takes were ok, and whether one was bad.
pub record State (S : Type 0) : Type 0 where
  pub inner : S
  pub oks : ℕ
  pub stopped : Bool

-- W1: "tick count 0, .. and is not stopped"
abbrev pub opening : {S : Type 0} → S → State S
opening s = record { inner = s; oks = 0; stopped = false }

-- S is the history of the words, or the watch of the machine; judge and move are what it makes of a word.
module _ {S : Type 0} where
  -- The answer to a word, looked at or taken; W10, of a look: "Its answer is the one that a take of its word would get in its
  -- place". X11: "a call by 16, 17 and then 15". W3: "an earlier take on this watch was bad", W4: "none was bad, and 1,000,000
  -- earlier takes were ok", W5: "neither of these, and the word has a bit above the wires", W6: "Every other call is judged"
  -- The state holds just what this asks of the earlier takes: only ok adds to oks, and only bad sets stopped.
  unfoldable pub reply : (judge : S → ℕ → Verdict) (wires : ℕ) → State S → ℕ → Reply
  reply judge wires s w =
      cond s.stopped (refused number.stopped 0)
      (cond (is_full s.oks) (refused number.full 0)
      (cond (is_stray wires w) (refused number.stray 0)
      (reply_of (judge s.inner w))))

  -- What a take leaves. W7: "After ok the word is the last of the words so far, the tick count is one higher". W8: "After bad
  -- the watch is stopped, and in all else as before the take". W9: "A refused call leaves the watch as it was".
  abbrev pub after : (move : S → ℕ → S) → State S → ℕ → Reply → State S
  after move s w ok = record { inner = move s.inner w; oks = suc s.oks; stopped = s.stopped }
  after move s w (bad m) = record { inner = s.inner; oks = s.oks; stopped = true }
  after move s w (refused n p) = s

  -- W10: "A look leaves the watch as it was, whatever its answer"
  abbrev pub after_call : (move : S → ℕ → S) → State S → Call → Reply → State S
  after_call move s (look w) r = s
  after_call move s (take w) r = after move s w r

  -- W11: "each other one the watch that the call before it left"
  unfoldable pub replies_from : (judge : S → ℕ → Verdict) (move : S → ℕ → S) (wires : ℕ) → State S → List Call → List Reply
  replies_from judge move wires s [] = []
  replies_from judge move wires s (c ∷ cs) =
      let r = reply judge wires s (word_of c) in
      r ∷ replies_from judge move wires (after_call move s c r) cs

  -- what the calls leave
  unfoldable pub state_from : (judge : S → ℕ → Verdict) (move : S → ℕ → S) (wires : ℕ) → State S → List Call → State S
  state_from judge move wires s [] = s
  state_from judge move wires s (c ∷ cs) = state_from judge move wires (after_call move s c (reply judge wires s (word_of c))) cs

-- the replies that the words' meaning fixes, from the limits, the monitors, the first store values and the number of wires;
-- W11: "the first gets the watch that opening gave"
abbrev pub replies : List Limit → List Exp → List ℕ → ℕ → List Call → List Reply
replies ls ms initial wires cs = replies_from (judged ls ms) (onward ms) wires (opening (start initial)) cs

-- and what then stands: the history of the words of ok takes with the store values, their number, and whether a take was bad
abbrev pub standing : List Limit → List Exp → List ℕ → ℕ → List Call → State History
standing ls ms initial wires cs = state_from (judged ls ms) (onward ms) wires (opening (start initial)) cs

-- ---- the same clauses, of one call and the takes before it ----

-- W11: "Only takes count": the words of the takes among some calls
abbrev pub taken : List Call → List ℕ
taken [] = []
taken (look w ∷ cs) = taken cs
taken (take w ∷ cs) = w ∷ taken cs

-- and the replies to them, of those to all calls
abbrev pub taken_replies : List Call → List Reply → List Reply
taken_replies [] rs = []
taken_replies (c ∷ cs) [] = []
taken_replies (look w ∷ cs) (r ∷ rs) = taken_replies cs rs
taken_replies (take w ∷ cs) (r ∷ rs) = r ∷ taken_replies cs rs

-- the words of the takes not refused (W11: up to a bad one "those of the ok takes, in order")
abbrev pub judged_words : List ℕ → List Reply → List ℕ
judged_words [] rs = []
judged_words (w ∷ ws) [] = []
judged_words (w ∷ ws) (r ∷ rs) = only (not (is_refused r)) (w ∷ []) ++ judged_words ws rs

-- W3 to W6, and W10 since it is the same for both: a call with word w, look or take, is rightly answered with r after takes of the words ws with the replies rs
pub record Rightly (ls : List Limit) (ms : List Exp) (initial : List ℕ) (wires : ℕ) (ws : List ℕ) (rs : List Reply) (w : ℕ) (r : Reply) : Type 0 where
  pub stopped : r ≡ refused number.stopped 0 ↔ T (any is_bad rs)
  pub full : r ≡ refused number.full 0 ↔ (T (not (any is_bad rs)) × (count is_ok rs ≡ most_ticks))
  pub stray : r ≡ refused number.stray 0 ↔ (T (not (any is_bad rs)) × (count is_ok rs ≡ most_ticks → ⊥) × (2 ^ wires ≤ w))
  pub other : T (not (any is_bad rs)) → (count is_ok rs ≡ most_ticks → ⊥) → w < 2 ^ wires → r ≡ reply_of (judged ls ms (history ms initial (judged_words ws rs)) w)

-- W11: every call of the list is, by the takes before it
abbrev pub AllRightly : List Limit → List Exp → List ℕ → ℕ → List Call → List Reply → Type 0
AllRightly ls ms initial wires cs rs =
    (n : ℕ) → n < length cs
    → Rightly ls ms initial wires (taken (up_to n cs)) (taken_replies (up_to n cs) (up_to n rs)) (word_of (get_or cs n (take 0))) (get_or rs n ok)

-- ---- the rows that takes touch ----

-- W12: a take tells how many rows it touched, "0 if it is refused, and if it is ok or bad the number of its tick"
abbrev pub touched_by : Reply → ℕ → ℕ
touched_by ok n = n
touched_by (bad m) n = n
touched_by (refused k p) n = 0

-- W2 and W12: what a look answers, and what a take does; "A look tells none"
pub data Answer : Type 0 where
  looked : Reply → Answer
  took : Reply → (touched : ℕ) → Answer

abbrev pub reply_in : Answer → Reply
reply_in (looked r) = r
reply_in (took r n) = r

-- a call, at a tick that touches n rows, is answered so
abbrev pub Tells : (n : ℕ) → Call → Answer → Type 0
Tells n (look w) (looked r) = Unit {0}
Tells n (look w) (took r k) = ⊥
Tells n (take w) (looked r) = ⊥
Tells n (take w) (took r k) = k ≡ touched_by r n

-- W11 and W12: every call of the list is rightly answered, by the takes before it
abbrev pub AllAnswered : List Limit → List Exp → List ℕ → ℕ → List Call → List Answer → Type 0
AllAnswered ls ms initial wires cs xs =
    AllRightly ls ms initial wires cs (map reply_in xs)
    × ((n : ℕ) → n < length cs → Tells (touched ms (standing ls ms initial wires (up_to n cs)).inner.ticks) (get_or cs n (take 0)) (get_or xs n (looked ok)))
