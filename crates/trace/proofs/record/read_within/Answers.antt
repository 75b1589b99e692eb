-- `trace::record::read_within` meets its contract. Assumes nothing.
use Rattle.trace.proofs.Reading.{at-within, never-short}
use Rattle.trace.proofs.record.read_within.Goals as goal

pub returns-in-Ok : goal.returns-in-Ok
returns-in-Ok c = at-within _ _ _ _ c.requires c.in-Ok.ensures

pub returns-in-Err-Torn : goal.returns-in-Err-Torn
returns-in-Err-Torn c = at-within _ _ _ _ c.requires (rw c.in-Err-Torn.field-0-is at c.in-Err-Torn.ensures)

pub returns-in-Err-Idle : goal.returns-in-Err-Idle
returns-in-Err-Idle c = at-within _ _ _ _ c.requires (rw c.in-Err-Idle.field-0-is at c.in-Err-Idle.ensures)

pub returns-in-Err-Short : goal.returns-in-Err-Short
returns-in-Err-Short c = absurd (never-short _ _ _ (rw c.in-Err-Short.field-0-is at c.in-Err-Short.ensures))
