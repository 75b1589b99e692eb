-- Limits on how often letters are met. `Bound`, `within` and `lowest_beyond` say over lists of ticks what the array counts; `monitor` ties them to meaning's Limits, so none has to
-- be believed.
pub mod Windows
