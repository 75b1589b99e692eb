-- The answers to the goals of `sheet::page::Page::good`.
use Rattle.sheet.proofs.LaidSteps.{good-line, laid-told}
use Rattle.sheet.proofs.page.Page.good.Goals as goal

pub returns-clause-printed : goal.returns-clause-printed
returns-clause-printed c = good-line c.requires.0.laid c.args.word _ c.store_word.ensures c.text.ensures

pub returns-clause-kept : goal.returns-clause-kept
returns-clause-kept c = record { digits = c.requires.0.digits; laid = laid-told c.requires.0.laid c.args.word _ c.store_word.ensures }
