-- What looking, taking and opening come to on words, by what the functions that they call answer. Assumes nothing.
use mathlib.Core.Path.{◌≡◌, refl, sym, ap, ap₂, ◌∙◌}
use mathlib.Core.Bool.{Bool, true, false, cond}
use mathlib.Core.List.{List, []}
use Prim.Native.Nat.{ℕ, ◌<◌, min}
use lib.ListN.{get_or}
use Rattle.lexer.proofs.Bools.{taken, left}
use Rattle.words.specs.Words.{quad}
use Rattle.meaning.specs.Answers as meaning
use Rattle.meaning.specs.Opening.{Opened, counts_of}
use Rattle.meaning.specs.Fit.{ok as clean, bad as broken}
use Rattle.meaning.specs.Calls.{Reply, ok, bad, refused, reply_of, touched_by, looked, took}
use Rattle.meaning.proofs.ListLaws.{clash}
use Rattle.rules.specs.declared.Watch.{Watch}
use Rattle.std.specs.Prelude.{Result, Ok, Err, is_ok}
use Rattle.rules.specs.declared.Counts.{Counts}
use Rattle.rules.specs.declared.Refused.{Refused}
use Rattle.rules.specs.declared.Refused.TheVariants.{AtByte, AtLetter}
use Rattle.rules.specs.Watches.{watch_of, shown_outcome}
use Rattle.monitor.specs.Letters.{Given}
use Rattle.monitor.specs.Ticks.{Layout}
use Rattle.monitor.specs.Limited.{Stepped, stepped, answer_at, tick_of, is_bad, verdict_by}
use Rattle.monitor.specs.Calls.{refused_by}
use Rattle.monitor.proofs.TickSteps.{number-refused, number-room, number-reached}
use Rattle.live.specs.State.{marks_in, values_in, windows_in, state_in, moved, halted}
use Rattle.live.specs.Calls.{Words, state_block, with_state, letters_in, wires_in, filled, opened_in, judge_in, tick_in, reply_in, left_by, words_after, touched_with, touched_in}
use Rattle.live.specs.Codes.{code_of, answer_code, is_open}

-- ---- opening

-- a text that is not accepted leaves the words, and an accepted one fills them
pub refused-left : (x : meaning.Answer Opened) (W : Words) → is_open (counts_of x) ≡ false → W ≡ opened_in x W
unfolding counts_of
refused-left (meaning.value o) W e = clash (cc e)
refused-left (meaning.refused n p) W e = refl

pub opened-filled : (x : meaning.Answer Opened) (v : Watch) (W W' : Words) → is_open (counts_of x) ≡ true → v ≡ watch_of x → W' ≡ filled v W → W' ≡ opened_in x W
unfolding counts_of
opened-filled (meaning.value o) v W W' e p q = q ∙ ap (λ (u : Watch). filled u W) p
opened-filled (meaning.refused n p) v W W' e r q = clash (cc e)

-- ---- one word

-- a step is answered as a look
pub tick-answers : (g : Given) (y : Layout) (K C X : List ℕ) → (tick_of g y K C X).answer ≡ answer_at g y K C X
tick-answers g y K C X = by (is_bad (answer_at g y K C X)) _ _ refl refl
  where
    by : (b : Bool) (s t : Stepped) → s.answer ≡ answer_at g y K C X → t.answer ≡ answer_at g y K C X → (cond b s t).answer ≡ answer_at g y K C X
    by true s t p q = p
    by false s t p q = q

-- by what was read of the state
module _ (W : Words) (w : ℕ) (K₀ σ₀ X₀ : List ℕ) (p : K₀ ≡ marks_in (state_block W)) (q : σ₀ ≡ values_in (state_block W)) (r : X₀ ≡ windows_in (state_block W)) where
  pub tick-read : tick_in W (record { marks = K₀; values = σ₀; last = get_or (state_block W) 2 0; totals = []; windows = X₀ }) w ≡ tick_in W (state_in (state_block W)).inner w
  tick-read =
      ap₂ (λ (k s : List ℕ). tick_in W (record { marks = k; values = s; last = get_or (state_block W) 2 0; totals = []; windows = X₀ }) w) p q
      ∙ ap (λ (x : List ℕ). tick_in W (record { marks = marks_in (state_block W); values = values_in (state_block W); last = get_or (state_block W) 2 0; totals = []; windows = x }) w) r

module _ (W : Words) (w n : ℕ) (e : n ≡ refused_by (state_in (state_block W)).stopped (get_or (state_block W) 0 0) (wires_in W) w) where
  words-refused : (n ≡ 0 → ⊥) → reply_in W w ≡ refused n 0
  unfolding reply_in
  words-refused = number-refused (judge_in W) (wires_in W) (state_in (state_block W)) w n e

  pub words-room : n ≡ 0 → get_or (state_block W) 0 0 < 1000000
  words-room = number-room (judge_in W) (wires_in W) (state_in (state_block W)) w n e

  words-reached : n ≡ 0 → (a : ℕ) → a ≡ (tick_in W (state_in (state_block W)).inner w).answer → (b : Bool) → b ≡ is_bad a → reply_in W w ≡ reply_of (cond b (broken a) clean)
  unfolding reply_in
  words-reached z a s b f =
      number-reached (judge_in W) (wires_in W) (state_in (state_block W)) w n e z a (ap verdict_by (sym (s ∙ tick-answers _ _ _ _ _))) b f

  pub look-refused : (n ≡ 0 → ⊥) → (m x : ℕ) → m ≡ n → x ≡ quad 2 m 0 0 → x ≡ answer_code (looked (reply_in W w))
  look-refused z m x d q = q ∙ ap (λ (k : ℕ). quad 2 k 0 0) d ∙ ap (λ (r : Reply). code_of r 0) (sym (words-refused z))

  pub look-bad : n ≡ 0 → (a : ℕ) → a ≡ (tick_in W (state_in (state_block W)).inner w).answer → (b : Bool) → b ≡ is_bad a → b ≡ true → (x : ℕ) → x ≡ quad 1 a 0 0 → x ≡ answer_code (looked (reply_in W w))
  look-bad z a s b f h x q = q ∙ ap (λ (r : Reply). code_of r 0) (sym (words-reached z a s b f ∙ ap reply_of (taken b (broken a) clean h)))

  pub look-ok : n ≡ 0 → (a : ℕ) → a ≡ (tick_in W (state_in (state_block W)).inner w).answer → (b : Bool) → b ≡ is_bad a → b ≡ false → (x : ℕ) → x ≡ quad 0 0 0 0 → x ≡ answer_code (looked (reply_in W w))
  look-ok z a s b f h x q = q ∙ ap (λ (r : Reply). code_of r 0) (sym (words-reached z a s b f ∙ ap reply_of (left b (broken a) clean h)))

  -- what a take answers and leaves
  abbrev Taken : (x : ℕ) → Words → Type 0
  Taken x W' = (x ≡ answer_code (took (reply_in W w) (touched_by (reply_in W w) (touched_in W)))) × (W' ≡ words_after W w)

  taken-by : (r : Reply) → reply_in W w ≡ r → (t x : ℕ) → t ≡ touched_in W → x ≡ code_of r (touched_by r t) → (W' : Words) → W' ≡ left_by W w r → Taken x W'
  unfolding words_after
  taken-by r d t x u q W' l = (
    q ∙ ap₂ (λ (s : Reply) (k : ℕ). code_of s (touched_by s k)) (sym d) u,
    l ∙ ap (left_by W w) (sym d),
  )

  pub take-refused : (n ≡ 0 → ⊥) → (m x : ℕ) → m ≡ n → x ≡ quad 2 m 0 0 → Taken x W
  take-refused z m x d q = taken-by (refused n 0) (words-refused z) (touched_in W) x refl (q ∙ ap (λ (k : ℕ). quad 2 k 0 0) d) W refl

  module _ (z : n ≡ 0) (a t : ℕ) (K σ X : List ℕ) (s : stepped a K σ X ≡ tick_in W (state_in (state_block W)).inner w) (u : t ≡ touched_in W) (b : Bool) (f : b ≡ is_bad a) where
    pub take-bad : b ≡ true → (x : ℕ) → x ≡ quad 1 a t 0 → (S : List ℕ) → S ≡ halted (state_block W) → Taken x (with_state S W)
    take-bad h x q S l =
        taken-by (bad a) (words-reached z a (ap (λ (y : Stepped). y.answer) s) b f ∙ ap reply_of (taken b (broken a) clean h)) t x u q (with_state S W) (ap (λ (B : List ℕ). with_state B W) l)

    pub take-ok : b ≡ false → (x : ℕ) → x ≡ quad 0 0 t 0 → (S : List ℕ) → S ≡ moved w (min (letters_in W) 256) K σ X (state_block W) → Taken x (with_state S W)
    take-ok h x q S l =
        taken-by ok (words-reached z a (ap (λ (y : Stepped). y.answer) s) b f ∙ ap reply_of (left b (broken a) clean h)) t x u q (with_state S W)
        (ap (λ (B : List ℕ). with_state B W) (l ∙ ap (λ (y : Stepped). moved w (min (letters_in W) 256) y.marks y.values y.windows (state_block W)) s))

pub touched-read : (W : Words) (K : List ℕ) (t : ℕ) → K ≡ marks_in (state_block W) → t ≡ touched_with W K → t ≡ touched_in W
unfolding touched_in
touched-read W K t p q = q ∙ ap (touched_with W) p

-- ---- an opening as a number

pub open-is : (o : Result Counts Refused) → is_ok o ≡ is_open (shown_outcome o)
open-is (Ok n) = refl
open-is (Err (AtByte n p)) = refl
open-is (Err (AtLetter n m l)) = refl
