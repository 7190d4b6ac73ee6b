-- What each change makes of a shop and its plan.
use Rattle.std.specs.Prelude.{◌≡◌, ℕ, ◌-◌, ◌<◌, ◌≤◌, List, slice_set, Option, None, Some}
use Rattle.shop_base.specs.declared.limits.TheConstants.{MAX_JOBS, MAX_NOMINAL, MAX_RELEASE, MAX_MOMENT}
use Rattle.shop_base.specs.declared.shop.Step.{Step}
use Rattle.shop_base.specs.Shop.{IsRoute}
use Rattle.shop_base.specs.Plan.{PlannedShop, jobs, route, machine_of, Visits}
use Rattle.shop_base.specs.Cell.{since, IsFree}
use Rattle.orlib_read.specs.Kinds.{first_line, IsJobLine}
use Rattle.plan_revise.specs.declared.change.Change.{Change}
use Rattle.plan_revise.specs.declared.change.Change.TheVariants.{Until, Add, Scrap, Down, Route, Release, Budget, Hold}
use Rattle.plan_revise.specs.Promises.{no_promise}
use Rattle.plan_revise.specs.Placed.{added}
use Rattle.plan_revise.specs.Dates.{coming_by, promised_by}
use Rattle.plan_revise.specs.AnotherWay.{way_on, sent_outside, IsSentInside}
use Rattle.plan_revise.specs.Held.{held}
use Rattle.plan_revise.specs.Settings.{RevisionSetting, moves_made, HasLeftCell, HasArrived, OperationGoesOn}
use Rattle.plan_revise.specs.Aside.{IsInLine, CanGoOn, HasRoom}
use Rattle.plan_revise.specs.Stopped.{stopped, without_machine}

-- what is given, or else this
abbrev pub given_or : Option ℕ → ℕ → ℕ
given_or None n = n
given_or (Some given) n = given

-- step k of job j lasts so long
abbrev pub lasting : PlannedShop → ℕ → ℕ → ℕ → PlannedShop
lasting p j k time = record p {
  shop = record p.shop { routes = slice_set p.shop.routes j (slice_set (route p j) k (record { machine = machine_of p j k; nominal = time })) };
}

module _ (s : RevisionSetting) (p : PlannedShop) where
  -- the operation that goes on on the machine lasts until a moment, counted from its job's entry
  pub record IsProlonged (machine to : ℕ) (q : PlannedShop) : Type 0 where
    pub in_plant : machine < s.plant
    pub job : ℕ
    pub step : ℕ
    pub at_work : OperationGoesOn s job step machine
    pub not_past : s.present ≤ to
    pub short : to - since s.cell job ≤ MAX_NOMINAL
    pub is : q ≡ lasting p job step (to - since s.cell job)

  -- a job with this route is added: released at the present moment and without a promise, where nothing is said
  pub record IsAdded (words : List ℕ) (release budget : Option ℕ) (q : PlannedShop) : Type 0 where
    pub steps : List Step
    pub written : IsJobLine (first_line words) steps
    pub few_jobs : jobs p < MAX_JOBS
    pub sound : IsRoute s.plant p.shop.recirculates steps
    pub release_in_range : given_or release s.present ≤ MAX_RELEASE
    pub budget_in_range : given_or budget no_promise ≤ MAX_MOMENT
    pub is : q ≡ added p steps (given_or release s.present) (given_or budget no_promise)

  -- job j, which hasn't left, is stopped where it is
  pub record IsScrapped (j : ℕ) (q : PlannedShop) : Type 0 where
    pub in_shop : j < jobs p
    pub here : HasLeftCell s p j → ⊥
    pub room : moves_made s j ≡ 0 → HasRoom s p
    pub is : q ≡ stopped s p j (moves_made s j)

  -- all jobs do without a machine of the plant
  pub record IsWithout (machine : ℕ) (q : PlannedShop) : Type 0 where
    pub in_plant : machine < s.plant
    pub room : (j k : ℕ) → moves_made s j ≡ 0 → Visits p j k machine → HasRoom s p
    pub is : q ≡ without_machine s p machine (jobs p)

  -- job j, which hasn't left and isn't on the machine behind those of the plant, goes another way from here, over machines of the plant
  pub record IsRerouted (j : ℕ) (words : List ℕ) (q : PlannedShop) : Type 0 where
    pub can : CanGoOn s p j
    pub steps : List Step
    pub written : IsJobLine (first_line words) steps
    pub sound : IsRoute s.plant p.shop.recirculates (way_on s p j steps)
    pub outside : moves_made s j ≡ 0 → q ≡ sent_outside p j steps
    pub inside : 0 < moves_made s j → IsSentInside s p j steps q

  -- job j, which hasn't come and isn't put aside, is due at another moment
  pub record IsReleaseMoved (j moment : ℕ) (q : PlannedShop) : Type 0 where
    pub in_line : IsInLine s p j
    pub awaited : HasArrived s j → ⊥
    pub in_range : moment ≤ MAX_RELEASE
    pub is : q ≡ coming_by p j moment

  -- job j, which hasn't left and isn't put aside, has another promise
  pub record IsPromiseMoved (j moment : ℕ) (q : PlannedShop) : Type 0 where
    pub in_line : IsInLine s p j
    pub in_range : moment ≤ MAX_MOMENT
    pub is : q ≡ promised_by p j moment

  -- a job more holds the machine, on which no job is, from the present moment to another
  pub record IsHeld (machine to : ℕ) (q : PlannedShop) : Type 0 where
    pub in_plant : machine < s.plant
    pub free : IsFree s.given s.cell machine
    pub few_jobs : jobs p < MAX_JOBS
    pub in_range : s.present ≤ MAX_RELEASE
    pub not_past : s.present ≤ to
    pub short : to - s.present ≤ MAX_NOMINAL
    pub is : q ≡ held s p machine (to - s.present)

  -- what the change makes of the shop and its plan
  abbrev pub IsChangedTo : Change → PlannedShop → Type 0
  IsChangedTo (Until machine to) q = IsProlonged machine to q
  IsChangedTo (Add words release budget) q = IsAdded words.now release budget q
  IsChangedTo (Scrap j) q = IsScrapped j q
  IsChangedTo (Down machine) q = IsWithout machine q
  IsChangedTo (Route j words) q = IsRerouted j words.now q
  IsChangedTo (Release j moment) q = IsReleaseMoved j moment q
  IsChangedTo (Budget j moment) q = IsPromiseMoved j moment q
  IsChangedTo (Hold machine to) q = IsHeld machine to q
