use Rattle.std.proofs.Common.{◌≤◌, ◌≡◌, true, List, ℕ, refl, subst, rules}
use mathlib.Core.Logic.{◌↔◌}
use Rattle.std.specs.List.{All}
use Rattle.std.proofs.lemmas.List.Elements.{All-nil}
use Rattle.std.proofs.lemmas.Fn.{fold_over, slice_gives, fronts}
use Rattle.loop_filter.proofs.LowLevels.{low-more}
use Rattle.loop_filter.proofs.levels_ok.Goals as goal

pub returns : goal.returns
returns c = subst (λ (l : List ℕ). (c.fold.result ≡ true) ↔ All (λ m. m ≤ 63) l) c.iter.ensures.rest
    (fold_over fronts (λ y. y.now) _ (λ ys b. (b ≡ true) ↔ All (λ m. m ≤ 63) ys) _ (λ ys a x b f' j k. let more = low-more ys a x.now j in search rules)
    _ _ _ _ (slice_gives c.iter.result) (λ e. All-nil _, λ h. refl) c.fold.ensures.ran)
