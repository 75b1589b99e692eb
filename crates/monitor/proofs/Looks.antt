-- Looks among takes (docs/REFERENCE.md, W10 and W11), on any watch: what a look answers, and that nothing else changes by it. Assumes nothing.
use mathlib.Core.Path.{◌≡◌, refl, sym, ap, ◌∙◌}
use mathlib.Core.List.{List, [], ◌∷◌, ◌++◌, map}
use Prim.Native.Nat.{ℕ}
use Rattle.meaning.specs.Calls.{Call, look, take, word_of, taken, taken_replies}
use Rattle.rules.specs.declared.Watch.{Watch}
use Rattle.monitor.specs.Calls.{reply_of, watch_after, watch_after_call, replies_of, watch_after_all}

-- ---- calls behind calls

replies-append : (v : Watch) (bs cs : List Call) → replies_of v (bs ++ cs) ≡ replies_of v bs ++ replies_of (watch_after_all v bs) cs
unfolding replies_of watch_after_all
replies-append v [] cs = refl
replies-append v (b ∷ bs) cs = ap (λ rs. reply_of v (word_of b) ∷ rs) (replies-append (watch_after_call v b) bs cs)

watch-append : (v : Watch) (bs cs : List Call) → watch_after_all v (bs ++ cs) ≡ watch_after_all (watch_after_all v bs) cs
unfolding watch_after_all
watch-append v [] cs = refl
watch-append v (b ∷ bs) cs = watch-append (watch_after_call v b) bs cs

-- ---- one look

-- a look, and a take of the same word behind it
pub look-then-take : (v : Watch) (w : ℕ) (cs : List Call)
    → (replies_of v (look w ∷ take w ∷ cs) ≡ reply_of v w ∷ reply_of v w ∷ replies_of (watch_after v w) cs)
    × (watch_after_all v (look w ∷ take w ∷ cs) ≡ watch_after_all (watch_after v w) cs)
unfolding replies_of watch_after_all
look-then-take v w cs = (refl, refl)

-- a take anywhere, a look in its place, and neither
pub look_anywhere : (v : Watch) (bs : List Call) (w : ℕ) (cs : List Call)
    → let u = watch_after_all v bs in
    (replies_of v (bs ++ take w ∷ cs) ≡ replies_of v bs ++ reply_of u w ∷ replies_of (watch_after u w) cs)
    × (replies_of v (bs ++ look w ∷ cs) ≡ replies_of v bs ++ reply_of u w ∷ replies_of u cs)
    × (replies_of v (bs ++ cs) ≡ replies_of v bs ++ replies_of u cs)
    × (watch_after_all v (bs ++ look w ∷ cs) ≡ watch_after_all v (bs ++ cs))
unfolding replies_of watch_after_all
look_anywhere v bs w cs = (
  replies-append v bs (take w ∷ cs),
  replies-append v bs (look w ∷ cs),
  replies-append v bs cs,
  watch-append v bs (look w ∷ cs) ∙ sym (watch-append v bs cs),
)

-- ---- the takes alone

pub replies-to-takes : (v : Watch) (cs : List Call) → taken_replies cs (replies_of v cs) ≡ replies_of v (map take (taken cs))
unfolding replies_of
replies-to-takes v [] = refl
replies-to-takes v (look w ∷ cs) = replies-to-takes v cs
replies-to-takes v (take w ∷ cs) = ap (λ rs. reply_of v w ∷ rs) (replies-to-takes (watch_after v w) cs)

pub watch-by-takes : (v : Watch) (cs : List Call) → watch_after_all v cs ≡ watch_after_all v (map take (taken cs))
unfolding watch_after_all
watch-by-takes v [] = refl
watch-by-takes v (look w ∷ cs) = watch-by-takes v cs
watch-by-takes v (take w ∷ cs) = watch-by-takes (watch_after v w) cs
