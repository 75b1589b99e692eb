-- What the reader's answers say of reading: `fault` is 0, and reading goes on from a position; or it is the refusal's number (docs/REFERENCE.md, X1), and the
-- place is given. Assumes nothing.
use Rattle.std.specs.Prelude.{List, ◌≡◌, ◌⊎◌, ℕ, ◌<◌, ◌≤◌, length}
use Rattle.lexer.specs.Tokens as token
use Rattle.lexer.specs.Tokens.{Token, Placed, token_at, tokens_at, rule_words}
use Rattle.refusals.specs.Numbers.{oversize}
use Rattle.meaning.specs.Answers.{Answer, refused, byte}
use Rattle.meaning.specs.Reading.{Expect, Step, fault, on_number, if_number, read_on}
use Rattle.meaning.specs.Names.{Names, Program}

-- reading a text from a position on
unfoldable pub read_from : List ℕ → ℕ → Names → Expect → Answer Program
read_from text at ns x = read_on ns x (tokens_at rule_words text at)

-- the first where the answer is no fault, else the second
pub data Unless (f : ℕ) (A B : Type 0) : Type 0 where
  fine : f ≡ 0 → A → Unless f A B
  faulted : (f ≡ 0 → ⊥) → B → Unless f A B

-- the position is behind one token at least
abbrev pub Past : List ℕ → (before after : ℕ) → Type 0
Past text a b = (a < b) × (b ≤ length text)

-- what must stand here stands here, whatever follows it
unfoldable pub Behind : List ℕ → (at f next : ℕ) → (Expect → Expect) → Type 0
Behind text at f next x =
    Unless f
    (Past text at next × ((ns : Names) → (y : Expect) → read_from text at ns (x y) ≡ read_from text next ns y))
    ((ns : Names) → (y : Expect) → read_from text at ns (x y) ≡ refused f (byte next))

abbrev pub placed : Token → (place after : ℕ) → Placed
placed t p a = record { token = t; place = p; after = a }

-- a token that is no number: it leads where no number leads
abbrev pub NoNumber : Placed → (f : ℕ) → Type 0
NoNumber t f = (next : ℕ → Step) → (on_number t next ≡ fault f t.place) × ((other : Step) → if_number t.token next other ≡ other)

-- a number stands here that is at most so much, or it is refused with 6 (X6)
unfoldable pub NumberRead : List ℕ → (at most f next place value : ℕ) → Type 0
NumberRead text at most f next place v =
    Unless f
    (Past text at next × (token_at rule_words text at ≡ placed (token.number v) place next) × (v ≤ most))
    (((token_at rule_words text at).place ≡ next)
    × (NoNumber (token_at rule_words text at) f ⊎ ((n : ℕ) × (a : ℕ) × (token_at rule_words text at ≡ placed (token.number n) next a) × (most < n) × (f ≡ oversize))))
