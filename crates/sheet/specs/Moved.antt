-- What good ticks move on of a watch, as the code keeps it apart. Assumes nothing.
use Rattle.std.specs.Prelude.{Bool}
use Rattle.rules.specs.declared.Watch.{Watch}
use Rattle.monitor.specs.Calls.{with_state}
use Rattle.sheet.specs.declared.ticking.Moving.{Moving}

abbrev pub moving_of : Watch → Moving
moving_of v = record { marks = v.marks; values = v.values; past = v.before; totals = v.totals; windows = v.windows; ticks = v.ticks }

-- the watch with it, stopped or not
abbrev pub moved : Watch → Moving → (stopped : Bool) → Watch
moved v m b = with_state v (record { inner = record { marks = m.marks; values = m.values; last = m.past; totals = m.totals; windows = m.windows }; oks = m.ticks; stopped = b })
