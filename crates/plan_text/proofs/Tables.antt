-- A table without faults is a plan, and only such a table is one.
use Rattle.std.proofs.Common.{◌≡◌, [], ◌++◌, None, refl}
use Rattle.shop_base.specs.Plan.{ShopPlan}
use Rattle.toml.specs.Data.{Members}
use Rattle.plan_text.specs.declared.keys.PlanKey.TheVariants.{Release, Budget, Order}
use Rattle.plan_text.specs.Keys.{plan_value_at, version_in}
use Rattle.plan_text.specs.Plans.{IsPlanTable}
use Rattle.plan_text.specs.Listing.{version_faults, has_cleaning, key_faults, missing_faults, missing_keys, list_faults, order_faults, faults_at, list_values, content_faults, faults_of}
use Rattle.plan_text.specs.Reading.{clean_in, plan_in, plan_with}
use Rattle.plan_text.proofs.Known.{has_times, keys_found, keys_only}
use Rattle.plan_text.proofs.Numbers.{none_parts, none_both, list_at_found, list_at_only, rows_at_found, rows_at_only}
use Rattle.plan_text.proofs.Versions.{has_times-clean_in, version_found, version_only, clean_found, clean_only}

pub table_found : (t : Members) → faults_of t ≡ [] → IsPlanTable t (plan_in t)
table_found t h =
    let cleaning = has_cleaning (version_in t) in
    let version = none_parts (version_faults (version_in t)) (content_faults cleaning t) h in
    let known = none_parts (key_faults cleaning t) (missing_keys cleaning t ++ list_values cleaning t) version.1 in
    let parts = none_parts (missing_keys cleaning t) (list_values cleaning t) known.1 in
    let m0 = none_parts (missing_faults Release (plan_value_at t Release)) _ parts.0 in
    let m1 = none_parts (missing_faults Budget (plan_value_at t Budget)) _ m0.1 in
    let m2 = none_parts (missing_faults Order (plan_value_at t Order)) _ m1.1 in
    let l0 = none_parts (faults_at (list_faults Release None) (plan_value_at t Release)) _ parts.1 in
    let l1 = none_parts (faults_at (list_faults Budget None) (plan_value_at t Budget)) _ l0.1 in
    let l2 = none_parts (faults_at order_faults (plan_value_at t Order)) _ l1.1 in
    record {
      version = version_found (version_in t) t version.0;
      keys = keys_found (clean_in cleaning t) t (rw (has_times-clean_in cleaning t) known.0);
      release = list_at_found Release (plan_value_at t Release) m0.0 l0.0;
      budget = list_at_found Budget (plan_value_at t Budget) m1.0 l1.0;
      order = rows_at_found (plan_value_at t Order) m2.0 l2.0;
      clean = clean_found cleaning t m2.1 l2.1;
    }

same_plans : (a b : ShopPlan) → a.release ≡ b.release → a.budget ≡ b.budget → a.order ≡ b.order → a.clean ≡ b.clean → a ≡ b
same_plans a b release budget order clean =
    let made : ShopPlan = record { release = a.release; budget = a.budget; order = a.order; clean = a.clean } in
    let e : made ≡ b = rw (release, budget, order, clean) refl in e

pub table_only : (t : Members) (plan : ShopPlan) → IsPlanTable t plan → (faults_of t ≡ []) × (plan ≡ plan_in t)
table_only t plan h =
    let version = version_only plan.clean (version_in t) h.version in
    let known = keys_only plan.clean t h.keys in
    let release = list_at_only Release (plan_value_at t Release) plan.release h.release in
    let budget = list_at_only Budget (plan_value_at t Budget) plan.budget h.budget in
    let order = rows_at_only (plan_value_at t Order) plan.order h.order in
    let clean = clean_only plan.clean t h.clean in
    let there : missing_keys (has_times plan.clean) t ≡ [] = none_both _ _ release.0 (none_both _ _ budget.0 (none_both _ _ order.0 clean.0)) in
    let lists : list_values (has_times plan.clean) t ≡ [] = none_both _ _ release.1 (none_both _ _ budget.1 (none_both _ _ order.1 clean.1)) in
    let content : content_faults (has_times plan.clean) t ≡ [] = none_both _ _ known (none_both _ _ there lists) in
    let whole : plan ≡ plan_with (has_times plan.clean) t = same_plans plan (plan_with (has_times plan.clean) t) release.2 budget.2 order.2 clean.2 in
    rw version.1 (none_both _ _ version.0 content, whole)
