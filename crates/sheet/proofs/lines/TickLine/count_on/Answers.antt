-- The answers to the goals of `sheet::lines::TickLine::count_on`.
use native.Mathlib.Omega.{arith}
use Rattle.std.proofs.lemmas.Fmt.{length-decimal-le}
use Rattle.sheet.proofs.LaidSteps.{laid_next, laid_filled, laid-long, laid-tail}
use Rattle.sheet.proofs.lines.TickLine.count_on.Goals as goal

pub returns-then-last-lt57 : goal.returns-then-last-lt57
returns-then-last-lt57 c = record { digits = c.requires.0.digits; laid = laid_next c.requires.0.laid c.if-last-lt57.true }

pub write_digits-self-requires : goal.write_digits-self-requires
write_digits-self-requires c =
    (length-decimal-le 20 _ (omega arith) (omega (arith, c.requires.1)) (omega (arith, c.requires.1)), omega (arith, laid-long c.requires.0.laid))

pub returns : goal.returns
returns c =
    let m = c.requires.0.laid in
    let d = c.write_digits-self in
    record {
      digits = c.requires.0.digits;
      laid =
          laid_filled m.word c.args.self.now.bytes d.new.buf d.result _ m.long (laid-tail m) (omega (arith, c.requires.1)) d.ensures.start d.ensures.written
          (omega (arith, laid-long m));
    }
