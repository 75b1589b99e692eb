-- The number of each refusal of the code (docs/REFERENCE.md, X1). Assumes nothing.
use Rattle.std.specs.Prelude.{ℕ}
use Rattle.refusals.specs.declared.Refusal.{Refusal}
use Rattle.refusals.specs.declared.Refusal.TheVariants.{Overlong, Knot, Misplaced, Unknown, Twice, Oversize, Crowded, LongRun, Impossible, Hollow, OpenEnd, Fork, Torn, IdleByte, Stray, Stopped, Full, ShortBin, Stretch, NotSingle}
use Rattle.refusals.specs.Numbers as number

abbrev pub number_of : Refusal → ℕ
number_of Overlong = number.overlong
number_of Knot = number.knot
number_of Misplaced = number.misplaced
number_of Unknown = number.unknown
number_of Twice = number.twice
number_of Oversize = number.oversize
number_of Crowded = number.crowded
number_of LongRun = number.long_run
number_of Impossible = number.impossible
number_of Hollow = number.hollow
number_of OpenEnd = number.open_end
number_of Fork = number.fork
number_of Torn = number.torn
number_of IdleByte = number.idle_byte
number_of Stray = number.stray
number_of Stopped = number.stopped
number_of Full = number.full
number_of ShortBin = number.short_bin
number_of Stretch = number.stretch
number_of NotSingle = number.not_single
