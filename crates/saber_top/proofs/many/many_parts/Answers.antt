use Rattle.std.proofs.Common.{◌≡◌, ◌∙◌, ℕ, List, Bor, IfSome, length, map, sym, ap, subst}
use Rattle.std.specs.List.{AllByRecursion, AllZip}
use Rattle.saber_io.specs.Outside.{FilesView}
use Rattle.saber_plan.specs.Outputs.{Rose}
use Rattle.saber_cli.specs.Outcomes.{IsClean, IsFileFault}
use Rattle.saber_plan.specs.Trees.{tree_of}
use Rattle.saber_words.specs.Many.{AskedMany, asked_many}
use Rattle.saber_top.specs.declared.ended.TopEnd.TheVariants.{Before, Each}
use Rattle.saber_top.specs.Commands.{out_names}
use Rattle.saber_top.specs.Ends.{IsCreateEnd}
use Rattle.saber_top.specs.Made.{EarlyMade, MadeFirst, naming_all}
use Rattle.saber_top.specs.ManyLeaves.{AllRead, LeftAlone, LeftRan, RanFits, EarlyFits, SharedFits, UsesFirst}
use Rattle.saber_top.specs.Queries.{ArePlanned, EndsEarly, LackShared}
use Rattle.saber_top.specs.Shared.{RunsOver, outcomes_of, parts_in}
use Rattle.saber_top.proofs.QueryLemmas.{some_map}
use Rattle.saber_top.proofs.ManyLemmas.{shared_early, shared_leaves, shared_no_create, shared_no_usage, made_none, left_early, left_leaves, early_follows, ran_follows, made_number, answers_told, takes_told, statuses, writes, writes_good}
use Rattle.saber_top.proofs.PartLemmas.{zip_long}
use Rattle.saber_top.proofs.many.many_parts.Goals as goal

-- the queries' names, as they were handed on
pub returns-in-Err-clause-early : goal.returns-in-Err-clause-early
returns-in-Err-clause-early g c =
    let m : AskedMany = asked_many c.args.many.now in
    let e = c.in-Err.early in
    let told = g.F.Files.told in
    let names : map (λ (q : Bor (List ℕ)). q.now) c.deref.result.now ≡ m.queries = ap (map (λ (q : Bor (List ℕ)). q.now)) c.deref.ensures.value in
    let uses : UsesFirst m.queries (SharedFits m.queries e) (told c.args.files.now) (told c.shared_plans.new.files) = subst (λ x. UsesFirst x (SharedFits x e) (told c.args.files.now) (told c.shared_plans.new.files)) names c.in-Err.ensures.leaves in
    record {
      early = some_map (λ (t : FilesView). LackShared t.contents (map (λ (q : Bor (List ℕ)). q.now) c.deref.result.now) e) (λ t. EndsEarly t.contents m e) (told c.args.files.now)
          (λ t h. shared_early t.contents m e (subst (λ x. LackShared t.contents x e) names h)) c.in-Err.ensures.reason;
      each = λ k. let clash : Before e ≡ Each = k in cc;
      answers = λ k. let clash : Before e ≡ Each = k in cc;
      taken = λ k. let clash : Before e ≡ Each = k in cc;
      leaves = shared_leaves m e (told c.args.files.now) (told c.shared_plans.new.files) uses;
      leaves_each = λ k. let clash : Before e ≡ Each = k in cc;
      made = made_none m e (g.U.Outs.asked c.args.outs.now) (λ number k. shared_no_create m.queries e _ _ uses (subst IsCreateEnd (sym k) tt));
      made_each = λ k. let clash : Before e ≡ Each = k in cc;
    }

pub returns-in-Err-clause-outs : goal.returns-in-Err-clause-outs
returns-in-Err-clause-outs g c k = absurd (shared_no_create _ c.in-Err.early _ _ c.in-Err.ensures.leaves k)

pub returns-in-Err-clause-read : goal.returns-in-Err-clause-read
returns-in-Err-clause-read g c k = shared_no_usage _ c.in-Err.early _ _ c.in-Err.ensures.leaves k

-- ---- all were run

pub returns-in-Ok-run_left-clause-parts : goal.returns-in-Ok-run_left-clause-parts
returns-in-Ok-run_left-clause-parts g c =
    let m : AskedMany = asked_many c.args.many.now in
    let told = g.F.Files.told in
    let old = told c.args.files.now in
    let mid = told c.shared_plans.new.files in
    let new = told c.run_left.new.files in
    let names : map (λ (q : Bor (List ℕ)). q.now) c.deref.result.now ≡ m.queries = ap (map (λ (q : Bor (List ℕ)). q.now)) c.deref.ensures.value in
    let again : map (λ (q : Bor (List ℕ)). q.now) c.deref-3.result.now ≡ m.queries = ap (map (λ (q : Bor (List ℕ)). q.now)) c.deref-3.ensures.value in
    let plans = c.in-Ok.plans.list.items in
    let trees = map tree_of plans in
    let planned : IfSome old (λ (t : FilesView). ArePlanned t.contents m.queries trees) = subst (λ x. IfSome old (λ (t : FilesView). ArePlanned t.contents x trees)) names c.in-Ok.ensures.plans in
    let read : AllRead m.queries old mid = subst (λ x. AllRead x old mid) names c.in-Ok.ensures.read in
    let written = g.U.Out.Sink.written in
    let failed = g.U.Out.Sink.faults in
    let made = g.U.Out.Sink.writes in
    let parts = parts_in c.in-Ok-run_left.parts in
    let same : c.deref-2.result.now ≡ plans = c.deref-2.ensures.value in
    let over = subst (λ x. AllZip (λ plan part. RunsOver written failed made (tree_of plan) m.sizes m.left mid new part) x parts) same c.in-Ok-run_left.ensures.parts in
    let many : length plans ≡ length m.queries = subst (λ x. length plans ≡ length x) names c.in-Ok.ensures.many in
    let n = length m.queries in
    record {
      early = tt;
      each = λ _. zip_long (λ plan part. RunsOver written failed made (tree_of plan) m.sizes m.left mid new part) plans parts over ∙ many;
      answers = λ _. answers_told written failed made m old mid new plans parts planned c.in-Ok.ensures.share read c.in-Ok-run_left.ensures.there over;
      taken = λ _. takes_told written failed made m old mid new plans parts planned many read over;
      leaves = tt;
      leaves_each = λ _. left_leaves m (LeftRan (outcomes_of parts)) (RanFits n (outcomes_of parts)) trees old mid new (ran_follows n (outcomes_of parts)) planned c.in-Ok.ensures.share read c.in-Ok-run_left.ensures.used;
      made = tt;
      made_each = λ _. subst (λ x. g.U.Outs.asked c.run_left.new.outs ≡ naming_all (g.U.Outs.asked c.args.outs.now) (out_names x)) again c.in-Ok-run_left.ensures.made;
    }

pub returns-in-Ok-run_left-clause-parts_true : goal.returns-in-Ok-run_left-clause-parts_true
returns-in-Ok-run_left-clause-parts_true g c =
    let m : AskedMany = asked_many c.args.many.now in
    let told = g.F.Files.told in
    let old = told c.args.files.now in
    let mid = told c.shared_plans.new.files in
    let new = told c.run_left.new.files in
    let names : map (λ (q : Bor (List ℕ)). q.now) c.deref.result.now ≡ m.queries = ap (map (λ (q : Bor (List ℕ)). q.now)) c.deref.ensures.value in
    let again : map (λ (q : Bor (List ℕ)). q.now) c.deref-3.result.now ≡ m.queries = ap (map (λ (q : Bor (List ℕ)). q.now)) c.deref-3.ensures.value in
    let plans = c.in-Ok.plans.list.items in
    let trees = map tree_of plans in
    let planned : IfSome old (λ (t : FilesView). ArePlanned t.contents m.queries trees) = subst (λ x. IfSome old (λ (t : FilesView). ArePlanned t.contents x trees)) names c.in-Ok.ensures.plans in
    let read : AllRead m.queries old mid = subst (λ x. AllRead x old mid) names c.in-Ok.ensures.read in
    let written = g.U.Out.Sink.written in
    let failed = g.U.Out.Sink.faults in
    let made = g.U.Out.Sink.writes in
    let parts = parts_in c.in-Ok-run_left.parts in
    let same : c.deref-2.result.now ≡ plans = c.deref-2.ensures.value in
    let over = subst (λ x. AllZip (λ plan part. RunsOver written failed made (tree_of plan) m.sizes m.left mid new part) x parts) same c.in-Ok-run_left.ensures.parts in
    let faults = g.F.Files.faults in
    let now = faults c.run_left.new.files in
    let good : faults c.shared_plans.new.files ≡ faults c.args.files.now = c.in-Ok.ensures.good in
    record {
      none = tt;
      statuses = statuses written failed made m old mid new plans parts over;
      files = λ k. absurd k;
      files_good = λ k. absurd k;
      reads = subst (λ n. AllByRecursion (λ part. IsFileFault part.outcome → Rose n now) parts) good c.in-Ok-run_left.ensures.reads;
      reads_good = subst (λ n. AllByRecursion (λ part. IsClean part.outcome → now ≡ n) parts) good c.in-Ok-run_left.ensures.reads_good;
      writes = writes written failed made m old mid new plans parts over;
      writes_good = writes_good written failed made m old mid new plans parts over;
    }

-- ---- none was

pub returns-in-Err-run_left-clause-early : goal.returns-in-Err-run_left-clause-early
returns-in-Err-run_left-clause-early g c =
    let m : AskedMany = asked_many c.args.many.now in
    let told = g.F.Files.told in
    let old = told c.args.files.now in
    let mid = told c.shared_plans.new.files in
    let new = told c.run_left.new.files in
    let names : map (λ (q : Bor (List ℕ)). q.now) c.deref.result.now ≡ m.queries = ap (map (λ (q : Bor (List ℕ)). q.now)) c.deref.ensures.value in
    let again : map (λ (q : Bor (List ℕ)). q.now) c.deref-3.result.now ≡ m.queries = ap (map (λ (q : Bor (List ℕ)). q.now)) c.deref-3.ensures.value in
    let plans = c.in-Ok.plans.list.items in
    let trees = map tree_of plans in
    let planned : IfSome old (λ (t : FilesView). ArePlanned t.contents m.queries trees) = subst (λ x. IfSome old (λ (t : FilesView). ArePlanned t.contents x trees)) names c.in-Ok.ensures.plans in
    let read : AllRead m.queries old mid = subst (λ x. AllRead x old mid) names c.in-Ok.ensures.read in
    let e = c.in-Err-run_left.early in
    let asked = g.U.Outs.asked in
    let n = length m.queries in
    let made : MadeFirst m.queries (EarlyMade 0 e) (asked c.args.outs.now) (asked c.run_left.new.outs) = subst (λ x. MadeFirst x (EarlyMade 0 e) (asked c.args.outs.now) (asked c.run_left.new.outs)) again c.in-Err-run_left.ensures.early in
    record {
      early = left_early m trees e old mid c.in-Err-run_left.ensures.kinds planned c.in-Ok.ensures.share read c.in-Err-run_left.ensures.there_early (made_number m e _ _ made);
      each = λ k. let clash : Before e ≡ Each = k in cc;
      answers = λ k. let clash : Before e ≡ Each = k in cc;
      taken = λ k. let clash : Before e ≡ Each = k in cc;
      leaves = left_leaves m (LeftAlone e) (EarlyFits n e) trees old mid new (early_follows n e) planned c.in-Ok.ensures.share read c.in-Err-run_left.ensures.uses;
      leaves_each = λ k. let clash : Before e ≡ Each = k in cc;
      made = made;
      made_each = λ k. let clash : Before e ≡ Each = k in cc;
    }
