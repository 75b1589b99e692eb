-- What is known of an expression before it is opened: the rules 8, 9 and 10 (docs/REFERENCE.md, X9, S10 and S11) from its parts alone, with letters counted from 0. A
-- copy of it then needs no second look, so that a text is refused before anything is copied, however many letters or stars the copies would have. Assumes nothing.
use Rattle.std.specs.Prelude.{cond, ℕ, ◌+◌, min}
use Rattle.std.proofs.Math.Option.{Option, none, some}
use Rattle.meaning.specs.Expression.{Exp, letter, seq, alt, star, pipe, size}
use Rattle.meaning.specs.Shape.{nullable}
use Rattle.meaning.specs.ShapeTests.{Shape, turned_away, agree}

-- 8, X9: letters are counted up to 257, which is over 256 like any more
abbrev pub counted : ℕ → ℕ
counted n = min 257 n

-- what is at fault in the first of two parts, else in the second, behind so many letters
abbrev pub or_later : Option ℕ → ℕ → Option ℕ → Option ℕ
or_later (some n) k o = some n
or_later none k (some n) = some (k + n)
or_later none k none = none

-- 9, S10: the first letter whose wire literals no word meets
unfoldable pub impossible_at : Exp → Option ℕ
impossible_at (letter l) = cond (agree l.literals) none (some 0)
impossible_at (seq e f) = or_later (impossible_at e) (size e) (impossible_at f)
impossible_at (alt e f) = or_later (impossible_at e) (size e) (impossible_at f)
impossible_at (star e) = impossible_at e
impossible_at (pipe e f) = or_later (impossible_at e) (size e) (impossible_at f)

-- e where it may not be nullable, with what is at fault in it otherwise (S11)
abbrev pub unless_nullable : Exp → Option ℕ → Option ℕ
unless_nullable e o = cond (nullable e) (some 0) o

-- 10, S11: the lowest letter of the first part in e that is nullable and may not be
unfoldable pub hollow_at : Exp → Option ℕ
hollow_at (letter l) = none
hollow_at (seq e f) = or_later (hollow_at e) (size e) (hollow_at f)
hollow_at (alt e f) = or_later (hollow_at e) (size e) (hollow_at f)
hollow_at (star e) = unless_nullable e (hollow_at e)
hollow_at (pipe e f) = or_later (unless_nullable e (hollow_at e)) (size e) (unless_nullable f (hollow_at f))

abbrev pub turned_at : ℕ → Option ℕ → Shape → Shape
turned_at rule none rest = rest
turned_at rule (some n) rest = turned_away rule n
