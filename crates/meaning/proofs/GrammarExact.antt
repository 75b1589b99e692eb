-- Reading a text gives a program exactly if the grammar derives it, and the grammar derives at most one. Assumes nothing.
use mathlib.Core.Path.{◌≡◌, refl}
use mathlib.Core.Logic.{◌↔◌}
use mathlib.Core.Bool.{Bool, true, false, cond}
use mathlib.Core.List.{List, [], ◌∷◌}
use Prim.Native.Nat.{ℕ, zero, suc, ◌-◌, ◌≤◌}
use lib.Dec.{ltb}
use lib.ListN.{length}
use borrow.Author.Tests.{ltb-false, le-ltb}
use Rattle.lexer.specs.Tokens as token
use Rattle.lexer.specs.Tokens.{goes_on, token_at, tokens_from, tokens_at, tokens, rule_words}
use Rattle.meaning.specs.Answers.{value, refused, byte}
use Rattle.refusals.specs.Numbers.{overlong}
use Rattle.meaning.specs.Reading.{statement, read_on, read}
use Rattle.meaning.specs.Names.{no_names, Program}
use Rattle.meaning.specs.Grammar.{IsProgram}
use Rattle.meaning.proofs.ListLaws.{clash}
use Rattle.meaning.proofs.GrammarReads.{derived-read}
use Rattle.meaning.proofs.GrammarDerives.{Ended, read-derived}

-- the end is a text's last token
ended-from : (k : ℕ) (s : List ℕ) (at : ℕ) → Ended (tokens_from rule_words k s at)
unfolding tokens_from
ended-from zero s at = tt
ended-from (suc k) s at = on (goes_on (token_at rule_words s at).token) refl (ended-from k s (token_at rule_words s at).after)
  where
    on : (b : Bool) → goes_on (token_at rule_words s at).token ≡ b → Ended (tokens_from rule_words k s (token_at rule_words s at).after)
        → Ended (token_at rule_words s at ∷ elim b [ true ↦ tokens_from rule_words k s (token_at rule_words s at).after | false ↦ [] ])
    on true e h = ((λ z. let g : goes_on token.end ≡ true = rw z at e in clash (cc)), h)
    on false e h = ((λ z. refl), tt)

pub ended : (text : List ℕ) → Ended (tokens rule_words text)
unfolding tokens_at
ended text = ended-from (suc (length text - 0)) text 0

-- A text is read as a program exactly if it is not overlong and the grammar derives that program.
pub reads-exactly : (text : List ℕ) (p : Program) → (read text ≡ value p) ↔ ((length text ≤ 16384) × IsProgram text p)
unfolding read
reads-exactly text p = (λ e. derives (ltb 16384 (length text)) refl e, λ (h, x). rw (le-ltb 16384 (length text) h) (derived-read (tokens rule_words text) x))
  where
    derives : (t : Bool) → ltb 16384 (length text) ≡ t → cond t (refused overlong (byte 0)) (read_on no_names statement (tokens rule_words text)) ≡ value p
        → (length text ≤ 16384) × IsProgram text p
    derives true h e = clash (cc)
    derives false h e = (ltb-false 16384 (length text) h, read-derived (tokens rule_words text) p (ended text) e)

-- A text has one program at most.
pub one-program : (text : List ℕ) (p r : Program) → IsProgram text p → IsProgram text r → p ≡ r
one-program text p r x y =
    let e : read_on no_names statement (tokens rule_words text) ≡ value p = derived-read (tokens rule_words text) x in
    let f : read_on no_names statement (tokens rule_words text) ≡ value r = derived-read (tokens rule_words text) y in
    cc
