-- `lexer::classes::class_of` meets its contract: that the table agrees with the rule is one test, which antt computes.
-- Assumes nothing.
use mathlib.Core.Path.{◌≡◌, refl, ◌∙◌, ap}
use mathlib.Core.Bool.{Bool, true}
use Prim.Native.Nat.{ℕ, ◌<◌}
use native.Mathlib.Omega.{arith}
use lib.Dec.{eqb}
use lib.ListN.{get_or}
use borrow.Author.Tests.{eqb-true}
use borrow.Author.Rules.{rules}
use Rattle.lexer.specs.Bytes.{is_white, is_digit, is_letter}
use Rattle.lexer.specs.Classes.{class_of, class_number}
use Rattle.lexer.specs.declared.classes.Class.{Class}
use Rattle.lexer.specs.declared.classes.Class.TheVariants.{White}
use Rattle.lexer.specs.declared.classes.TheConstants.{CLASSES}
use Rattle.lexer.proofs.Every.{every, every-at}
use Rattle.lexer.proofs.classes.class_of.Goals as goal

right : ℕ → Bool
right b = eqb (class_number (get_or CLASSES b White)) (class_of b)

all-right : every right 256 ≡ true
unfolding right class_of is_white is_digit is_letter
all-right = refl

listed : (b : ℕ) (k : Class) → b < 256 → k ≡ get_or CLASSES b White → class_number k ≡ class_of b
unfolding right
listed b k h e = ap class_number e ∙ eqb-true _ _ (every-at right 256 all-right b h)

pub returns : goal.returns
returns c = listed c.args.b _ (omega arith) (search rules)
