-- The wire literals of a letter as words. `passes` is to be believed, since it is what the test of three words answers.
pub mod Wires
-- How code keeps the literals, the wires that `past` holds too: nothing here has to be believed, since proofs tie it to `meaning`.
pub mod Masks
