-- What the functions that read a limit promise (docs/REFERENCE.md, G22): the production that is limited, and the two numbers of ticks. Assumes nothing.
use Rattle.std.specs.Prelude.{Bool, true, false, List, ◌≡◌, ℕ, ◌<◌, ◌≤◌}
use Rattle.lexer.specs.Tokens as token
use Rattle.lexer.specs.Tokens.{Placed}
use Rattle.meaning.specs.Answers.{refused, byte}
use Rattle.refusals.specs.Numbers.{stretch}
use Rattle.meaning.specs.Reading.{Expect, statement, keyword, limit_name, limit_most, go, unless, on_number, step}
use Rattle.meaning.specs.Names.{Limit, Names, new_limit, declare}
use Rattle.rules.specs.Cells.{Cells}
use Rattle.rules.specs.Reads.{read_from, Unless, Past}
use Rattle.rules.specs.Scopes.{limit_word}

-- ---- the production

-- The name of a production stands here, G22: "a single letter, without an operator"; its number is n (N8).
unfoldable pub SingleRead : (text P : List ℕ) → (h pos f next n : ℕ) → Type 0
SingleRead text P h pos f next n =
    Unless f
    (Past text pos next × ((c : ℕ) → (ns : Names) → Cells text P c h ns.declared → read_from text pos ns limit_name ≡ read_from text next ns (keyword token.to (limit_most n))))
    ((c : ℕ) → (ns : Names) → Cells text P c h ns.declared → read_from text pos ns limit_name ≡ refused f (byte next))

-- ---- a number of ticks

-- In the state x a number from `least` to `most` is expected, and any other is refused with 21 (G22).
pub record Between (ns : Names) (x : Expect) (least most : ℕ) (then : ℕ → Expect) : Type 0 where
  pub wrong : ℕ → Bool
  pub numeric : (t : Placed) → step ns x t ≡ on_number t (λ n. unless (wrong n) stretch t (go ns (then n)))
  pub small : (n : ℕ) → n < least → wrong n ≡ true
  pub large : (n : ℕ) → most < n → wrong n ≡ true
  pub inside : (n : ℕ) → least ≤ n → n ≤ most → wrong n ≡ false

-- the word w and the number n behind it, and reading on
pub record TicksAt (text : List ℕ) (pos : ℕ) (w : token.Word) (least most next n : ℕ) : Type 0 where
  pub past : Past text pos next
  pub low : least ≤ n
  pub high : n ≤ most
  pub leads : (ns : Names) → (x : Expect) → (then : ℕ → Expect) → Between ns x least most then → read_from text pos ns (keyword w x) ≡ read_from text next ns (then n)

unfoldable pub TicksRead : (text : List ℕ) → (pos : ℕ) → token.Word → (least most f next n : ℕ) → Type 0
TicksRead text pos w least most f next n =
    Unless f
    (TicksAt text pos w least most next n)
    ((ns : Names) → (x : Expect) → (then : ℕ → Expect) → Between ns x least most then → read_from text pos ns (keyword w x) ≡ refused f (byte next))

-- ---- the whole limit

-- it is read up to behind its `;`, and its word
pub record LimitAt (text P : List ℕ) (h pos next word : ℕ) : Type 0 where
  pub limit : Limit
  pub is : word ≡ limit_word limit
  pub past : Past text pos next
  pub reads : (c : ℕ) → (ns : Names) → Cells text P c h ns.declared
      → read_from text pos ns limit_name ≡ read_from text next (declare (new_limit limit.production limit.most limit.window) ns) statement

unfoldable pub LimitRead : (text P : List ℕ) → (h pos f next word : ℕ) → Type 0
LimitRead text P h pos f next word =
    Unless f
    (LimitAt text P h pos next word)
    ((c : ℕ) → (ns : Names) → Cells text P c h ns.declared → read_from text pos ns limit_name ≡ refused f (byte next))
