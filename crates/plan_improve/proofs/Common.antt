-- The names that most proofs here cite, passed on from one place. Declares nothing.
pub use Rattle.std.proofs.lemmas.Bool.{cases_lt}
pub use Rattle.std.proofs.lemmas.List.{append-nil}
pub use Rattle.std.specs.{List.range_with_len, Prelude.MatchOption}
pub use Rattle.shop_base.proofs.Keeping.{start-made}
pub use Rattle.shop_base.proofs.Sums.{sum_below-le, sum_below_same, sum_below_zero}
pub use Rattle.shop_base.specs.{Cell.{Cell, IsGone, MachineState, cleaning, entries, made, start}, Ends.sum_below}
pub use Rattle.shop_base.specs.Graph.{leaving}
pub use Rattle.shop_base.specs.Plan.{IsWellShaped, PlannedShop, budget, jobs, machines, order, steps}
pub use Rattle.shop_base.specs.{Sound.IsSound, Vectors.lists_of, declared.limits.TheConstants.MAX_MOMENT}
pub use Rattle.alt_graph.specs.{Solved.HasCycle, Times.{NodeTimes, rank_of}}
pub use Rattle.cell_tables.specs.{Kept.KeepsSoFar, Reordered.{BeginsWithEntries, IsReordered, reordered}, Rests.RestOfRun}
pub use Rattle.plan_net.specs.declared.ahead.PartAhead.{PartAhead}
pub use Rattle.plan_seek.specs.Orders.{Proposal, serial_order}
pub use Rattle.plan_verifier.proofs.{Acceptable.{acyclic, leaving_node}, Answers.{ok_both, ok_each}}
pub use Rattle.plan_verifier.proofs.GoingOn.{leaving_ahead, leavings_ahead}
pub use Rattle.plan_verifier.proofs.Reasons.{evident, greatest_once, judged_same, makespan_is, makespan_last, makespan_le}
pub use Rattle.plan_verifier.specs.{Accepted.{IsAcceptable, IsMakespan}, Leavings.{AreLeavingsAhead, IsLastLeaving, leaves_in}}
pub use Rattle.plan_verifier.specs.{Rest.{AreOrderedAhead, IsGreatestAhead}, RestVerdicts.{IsAcceptableAhead, IsRestAccepted}, Seen.judged}
pub use Rattle.plan_verifier.specs.Verdicts.{SaysAccepted}
pub use Rattle.plan_improve.specs.{AtBound.{IsBound, Meets}, Costs.{IsAtMost, IsCost, IsLateness, IsLess}}
pub use Rattle.plan_improve.specs.Improved.{HasNoBegin, IsBegin, IsFound, IsNeverWorse, IsVerdictOn}
pub use Rattle.plan_improve.specs.Keeping.{Comes, IsComeTo, IsFixed, IsLast, IsNext, IsNextOf, IsSearched, IsRestOfDone, bound_if_known, rest_in, setting_of}
pub use Rattle.plan_improve.specs.Laws.{ASecondSearchIsNoWorse, AcceptedPlansStayAccepted, AcceptedRestsStayAccepted, NoWorseIsPassedOn, NobodyBettersIt, TheRestOfTheStartCostsThePlan, TheirMakespansNeverGrow}
pub use Rattle.plan_improve.specs.RestCosts.{IsCostFrom, IsRestCost, late_by}
pub use Rattle.plan_improve.specs.{RestKeeping.{IsImproved, LeaveSoon, the_last_leaving}, RestOf.{NothingIsDone, HasNotArrived, IsRestOf, job_rest}}
pub use Rattle.plan_improve.specs.Runs.{AfterRound, AfterRounds, AfterSome, Asked, Becomes, EndsAfter, ReportedRounds, Watched, better, no_answer, no_better, no_round, nobody, one_more, round_more}
pub use Rattle.plan_improve.specs.Settings.{IsAtBound, IsBetter, IsBoundThere, IsNoWorse, Setting, rest_from, whole_plan}
pub use Rattle.plan_improve.specs.{Watching.{ReportsMore, Progress, reported_bound}, declared.best.Best.Best, declared.cost.Cost.Cost}
pub use Rattle.plan_improve.specs.{declared.fixed.Fixed.Fixed, declared.fixed.Fixed.TheVariants.{Nothing, Run}}
