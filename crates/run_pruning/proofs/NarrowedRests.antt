-- With the first machines alone, where the others are neither visited nor cleaned, all that is to come is the same.
use Rattle.std.proofs.Common.{◌≡◌, ℕ, List, true, sym, subst}
use Rattle.shop_base.specs.Plan.{PlannedShop, IsWellShaped}
use Rattle.shop_base.specs.Cell.{Cell}
use Rattle.shop_base.specs.Run.{Event, IsRun, ends_in}
use Rattle.shop_base.specs.Sound.{IsSound}
use Rattle.shop_base.proofs.Keeping.{run-sound}
use Rattle.run_pruning.specs.Spare.{narrowed, narrowed_cell}
use Rattle.run_pruning.specs.RestLaw.{IsAheadBy, ArePathsBy}
use Rattle.run_pruning.specs.OnwardLaw.{GoesOnBy}
use Rattle.run_pruning.specs.SpareLaw.{HasTheSameRests, TheRestsAreTheSame}
use Rattle.run_pruning.proofs.AlikeAhead.{ahead_on, paths_on, ahead_itself, paths_itself}
use Rattle.run_pruning.proofs.Narrowed.{AreEnough, narrowed-alike, narrowed-cells, narrowed-runs}
use Rattle.run_pruning.proofs.NarrowedOnward.{narrowed-onward}
use Rattle.run_pruning.proofs.WithoutSpare.{left_enough}

module _ (p : PlannedShop) (n : ℕ) (shaped : IsWellShaped p) (enough : AreEnough p n) where
  abbrev q : PlannedShop
  q = narrowed n p

  module _ (es : List Event) (run : IsRun p es) where
    abbrev c : Cell
    c = ends_in p es

    sound : IsSound p c
    sound = run-sound p es shaped run

    ends : narrowed_cell n c ≡ ends_in q es
    ends = sym ((narrowed-runs p n shaped enough).ends es run)

    ahead : IsAheadBy (λ j. true) (λ v. v) p c q (ends_in q es)
    ahead = subst (λ d. IsAheadBy (λ j. true) (λ v. v) p c q d) ends
        (ahead_on (λ v. v) p c p q (narrowed-alike p n shaped enough) c (narrowed_cell n c) (narrowed-cells p n shaped enough c sound) (λ j. true) (ahead_itself p c))

    paths : (t : ℕ) → ArePathsBy (λ v. v) p c q (ends_in q es) t
    paths t = subst (λ d. ArePathsBy (λ v. v) p c q d t) ends
        (paths_on (λ v. v) p c p q (narrowed-alike p n shaped enough) c (narrowed_cell n c) (narrowed-cells p n shaped enough c sound) t (paths_itself p c t))

  pub narrowed-rests : HasTheSameRests p q
  narrowed-rests = record {
    ahead = ahead;
    paths = λ es t run. paths es run t;
    onward = λ es t rs run. subst (λ d. GoesOnBy (λ rs. rs) (λ es. es) (narrowed_cell n) p (c es run) q d t rs) (ends es run) (narrowed-onward p n shaped enough (c es run) t rs (sound es run));
  }

pub the_rests_are_the_same-holds : TheRestsAreTheSame
the_rests_are_the_same-holds p plant shaped =
    let (n, enough, is) = left_enough p shaped plant in
    subst (λ x. HasTheSameRests p x) is (narrowed-rests p n shaped enough)
