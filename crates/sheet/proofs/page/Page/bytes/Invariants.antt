-- `sheet::page::Page::bytes` meets its contract: what is still to be printed. Assumes nothing.
use lib.ListN.{drop}
use Rattle.sheet.proofs.PageSteps.{Remains}
use Rattle.sheet.proofs.page.Page.bytes.Given as goal

abbrev pub invariant-loop-byte : goal.invariant-loop-byte
invariant-loop-byte l = Remains l.initial.self l.self l.text (drop l.byte-index l.text)
