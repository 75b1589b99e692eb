-- `rules::open_in` meets its contract.
-- Assumes nothing.
use native.Mathlib.Omega.{arith}
use borrow.Author.Rules.{rules}
use Prim.Native.Nat.{ℕ, ◌+◌, ◌-◌}
use mathlib.Core.Path.{◌≡◌, sym, ◌∙◌, ap}
use lib.ListN.{take, drop, length-replicate}
use lib.Seq.{length-take-le}
use Rattle.std.proofs.lemmas.List.{length-take}
use Rattle.std.proofs.lemmas.Result.{err_from_is_err_and}
use Rattle.rules.proofs.TextOpened.{right-byte, says, listed, some-monitors, zero-arrays, right-letter, rows-room, few_letters, right-open}
use Rattle.rules.proofs.LongRun.{front-monitors, front-some, front-few}
use Rattle.rules.proofs.open_in.Goals as goal

pub returns-in_err-reading : goal.returns-in_err-reading
returns-in_err-reading c =
    let p = err_from_is_err_and c.from_residual.result c.from_residual.ensures.1 in
    let r = right-byte _ c.requires.0 _ _ _ _ c.in_err-reading.ensures.0 _ c.requires.3 in
    rw (p.1, p.2) (r.outcome, r.watch)

pub open_monitors-requires : goal.open_monitors-requires
open_monitors-requires c =
    let t = c.in_ok-reading.ensures.0 in
    let l = listed _ c.requires.0 _ _ _ _ _ _ _ _ t (c.in_ok-reading.ensures.3 ∙ length-replicate {A = ℕ} 32 0) in
    (front-some _ _ _ l (some-monitors _ c.requires.0 _ _ _ _ _ _ _ _ t), zero-arrays _ c.requires.0 _ _ _ _ _ _ _ _ t)

pub slice_bounds-list-end : goal.slice_bounds-list-end
slice_bounds-list-end c =
    let l = listed _ c.requires.0 _ _ _ _ _ _ _ _ c.in_ok-reading.ensures.0 (c.in_ok-reading.ensures.3 ∙ length-replicate {A = ℕ} 32 0) in
    omega (arith, c.in_ok-reading.ensures.3, l)

pub slice_bounds-monitors-end : goal.slice_bounds-monitors-end
slice_bounds-monitors-end c =
    let l = listed _ c.requires.0 _ _ _ _ _ _ _ _ c.in_ok-reading.ensures.0 (c.in_ok-reading.ensures.3 ∙ length-replicate {A = ℕ} 32 0) in
    sym (length-take-le c.in_ok-reading.reading.count c.read.new.list l)

pub overflow_add-limits : goal.overflow_add-limits
overflow_add-limits c = let l = (says _ c.requires.0 _ _ _ _ _ _ _ _ c.in_ok-reading.ensures.0).few_limits in search rules

pub slice_bounds-limits-end : goal.slice_bounds-limits-end
slice_bounds-limits-end c = let l = (says _ c.requires.0 _ _ _ _ _ _ _ _ c.in_ok-reading.ensures.0).few_limits in search rules

pub shared_ref_as_front-padded : goal.shared_ref_as_front-padded
shared_ref_as_front-padded c = let l = (says _ c.requires.0 _ _ _ _ _ _ _ _ c.in_ok-reading.ensures.0).few in omega (arith, l)

pub padded-watch-requires : goal.padded-watch-requires
padded-watch-requires c =
    let l = (says _ c.requires.0 _ _ _ _ _ _ _ _ c.in_ok-reading.ensures.0).few in
    (omega arith, omega (arith, l, length-take c.in_ok-reading.reading.stores c.read.new.kept))

pub counted_letters-watch-requires : goal.counted_letters-watch-requires
counted_letters-watch-requires c =
    let l = listed _ c.requires.0 _ _ _ _ _ _ _ _ c.in_ok-reading.ensures.0 (c.in_ok-reading.ensures.3 ∙ length-replicate {A = ℕ} 32 0) in
    let f = (says _ c.requires.0 _ _ _ _ _ _ _ _ c.in_ok-reading.ensures.0).few_limits in
    let n = c.in_ok-reading.reading.limits in
    (front-few _ _ _ l (few_letters _ c.requires.0 _ _ _ _ _ _ _ _ c.in_ok-reading.ensures.0 _ _ _ (λ d ms w. c.in_ok-counts.ensures.0 d ms (front-monitors _ _ _ _ l w))), omega (arith, f, length-take (16 + n - 16) (drop 16 c.read.new.kept)))

pub returns-in_err-counts : goal.returns-in_err-counts
returns-in_err-counts c =
    let l = listed _ c.requires.0 _ _ _ _ _ _ _ _ c.in_ok-reading.ensures.0 (c.in_ok-reading.ensures.3 ∙ length-replicate {A = ℕ} 32 0) in
    let p = err_from_is_err_and c.from_residual-in_err-counts.result c.from_residual-in_err-counts.ensures.1 in
    let r = right-letter _ c.requires.0 _ _ _ _ _ _ _ _ c.in_ok-reading.ensures.0 _ _ (λ d ms w. c.in_err-counts.ensures.0 d ms (front-monitors _ _ _ _ l w)) _ c.requires.3 in
    rw (p.1, p.2) (r.outcome, r.watch)

pub letter_rows-watch-requires : goal.letter_rows-watch-requires
letter_rows-watch-requires c =
    let l = listed _ c.requires.0 _ _ _ _ _ _ _ _ c.in_ok-reading.ensures.0 (c.in_ok-reading.ensures.3 ∙ length-replicate {A = ℕ} 32 0) in
    (rows-room _ c.requires.0 _ _ _ _ _ _ _ _ c.in_ok-reading.ensures.0 _ _ _ (λ d ms w. c.in_ok-counts.ensures.0 d ms (front-monitors _ _ _ _ l w)), c.in_ok-counts.ensures.1.table)

pub start_marks-watch-requires : goal.start_marks-watch-requires
start_marks-watch-requires c = (says _ c.requires.0 _ _ _ _ _ _ _ _ c.in_ok-reading.ensures.0).monitors.few

pub returns : goal.returns
returns c =
    let l = listed _ c.requires.0 _ _ _ _ _ _ _ _ c.in_ok-reading.ensures.0 (c.in_ok-reading.ensures.3 ∙ length-replicate {A = ℕ} 32 0) in
    let n = c.in_ok-reading.reading.limits in
    let e : 16 + n - 16 ≡ n = omega arith in
    let r = right-open _ c.requires.0 _ _ _ _ _ _ _ _ c.in_ok-reading.ensures.0 _ _ _ (λ d ms w. c.in_ok-counts.ensures.0 d ms (front-monitors _ _ _ _ l w)) _ c.requires.3 _ (ap (λ k. take k (drop 16 c.read.new.kept)) e) _ _ _ _ _
    c.padded-watch.ensures c.start_marks-watch.ensures c.letter_rows-watch.ensures (λ d ms w. c.counted_letters-watch.ensures d ms (front-monitors _ _ _ _ l w)) _ c.padded.ensures c.windows_of-watch.ensures in
    (r.outcome, r.watch)
