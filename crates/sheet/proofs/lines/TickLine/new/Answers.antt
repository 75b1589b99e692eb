-- The answers to the goals of `sheet::lines::TickLine::new`.
use native.Mathlib.Omega.{arith}
use Rattle.std.proofs.lemmas.Fmt.{length-decimal-le}
use Rattle.sheet.proofs.LaidSteps.{laid-blank}
use Rattle.sheet.proofs.lines.TickLine.new.Goals as goal

pub write_digits-from-requires : goal.write_digits-from-requires
write_digits-from-requires c = (length-decimal-le 20 c.args.t (omega arith) (omega arith) c.ranges.t.fits, omega arith)

pub returns : goal.returns
returns c =
    let d = c.write_digits-from in
    record { digits = c.pairs.ensures; laid = laid-blank d.new.buf d.result c.args.t c.ranges.t.fits d.ensures.start d.ensures.written (omega arith) }
