-- `lexer::Word::spelling` meets its contract: the code's text is the definition's.
-- Assumes nothing.
use mathlib.Core.Path.{refl}
use Rattle.lexer.proofs.Word.spelling.Goals as goal

pub returns-in-Input : goal.returns-in-Input
returns-in-Input c = rw c.in-Input.is refl

pub returns-in-Internal : goal.returns-in-Internal
returns-in-Internal c = rw c.in-Internal.is refl

pub returns-in-Define : goal.returns-in-Define
returns-in-Define c = rw c.in-Define.is refl

pub returns-in-Monitor : goal.returns-in-Monitor
returns-in-Monitor c = rw c.in-Monitor.is refl

pub returns-in-Past : goal.returns-in-Past
returns-in-Past c = rw c.in-Past.is refl

pub returns-in-Limit : goal.returns-in-Limit
returns-in-Limit c = rw c.in-Limit.is refl

pub returns-in-To : goal.returns-in-To
returns-in-To c = rw c.in-To.is refl

pub returns-in-In : goal.returns-in-In
returns-in-In c = rw c.in-In.is refl
