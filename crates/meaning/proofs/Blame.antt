-- Which token is blamed: a refusal names the token that is judged, or, with number 6, the wide wire before it. So what stands behind that token, or behind the next one,
-- changes no refusal. Assumes nothing.
use mathlib.Core.Path.{◌≡◌, refl}
use mathlib.Core.Logic.{◌⊎◌, inl, inr}
use mathlib.Core.List.{List, [], ◌∷◌, ◌++◌}
use Prim.Native.Nat.{ℕ, ◌≤◌}
use lib.ListN.{length}
use borrow.Author.Tests.{le-ltb}
use Rattle.lexer.specs.Tokens.{Placed, tokens, rule_words}
use Rattle.meaning.specs.Answers.{refused, byte}
use Rattle.refusals.specs.Numbers.{oversize}
use Rattle.meaning.specs.Reading
use Rattle.meaning.specs.Reading.{Expect, statement, Step, go, finished, fault, step, read_on, read}
use Rattle.meaning.specs.Names.{Names, no_names}
use Rattle.meaning.specs.Viable.{Pending, bare_wire, feed_on, feed}
use Rattle.meaning.proofs.ListLaws.{clash}
use Rattle.meaning.proofs.Outcomes.{Outcome, refusal, late, ended, goes, outcome}

abbrev pub Blamed : Placed → Expect → Step → Type 0
Blamed t x (go ns y) = Unit {0}
Blamed t x (finished p) = Unit {0}
Blamed t x (fault number place) = (place ≡ t.place) ⊎ ((number ≡ oversize) × Pending x place)

blamed-in : {ns : Names} {t : Placed} {x : Expect} {s : Step} → Outcome ns t x s → Blamed t x s
blamed-in refusal = inl refl
blamed-in late = inr (refl, bare_wire)
blamed-in (ended e) = tt
blamed-in (goes e n) = tt

-- The blamed token is the one that is judged, or the pending wire.
pub blamed : (ns : Names) (x : Expect) (t : Placed) → Blamed t x (step ns x t)
blamed ns x t = blamed-in (outcome ns t x)

-- ---- what stands behind the blamed token

-- A text that is refused with the tokens so far keeps its refusal whatever tokens stand behind them.
pub refusal-kept : (ts us : List Placed) (ns : Names) (x : Expect) (number place : ℕ) → feed ns x ts ≡ fault number place
    → read_on ns x (ts ++ us) ≡ refused number (byte place)
unfolding feed read_on
refusal-kept [] us ns x number place e = clash (cc)
refusal-kept (t ∷ ts) us ns x number place e = by-step (step ns x t) e (λ ms y f. refusal-kept ts us ms y number place f)
  where
    by-step : (s : Step) → feed_on s (λ ms y. feed ms y ts) ≡ fault number place
        → ((ms : Names) (y : Expect) → feed ms y ts ≡ fault number place → read_on ms y (ts ++ us) ≡ refused number (byte place))
        → Reading.and_then s (λ ms y. read_on ms y (ts ++ us)) ≡ refused number (byte place)
    by-step (go ms y) e ih = ih ms y e
    by-step (finished p) e ih = clash (cc)
    by-step (fault n q) e ih = cc

-- Of a text that is not overlong, told from its first tokens alone.
pub read_kept : (text : List ℕ) (ts us : List Placed) (number place : ℕ) → length text ≤ 16384 → tokens rule_words text ≡ ts ++ us
    → feed no_names statement ts ≡ fault number place → read text ≡ refused number (byte place)
unfolding read
read_kept text ts us number place h t e = rw (le-ltb 16384 (length text) h, t) (refusal-kept ts us no_names statement number place e)
