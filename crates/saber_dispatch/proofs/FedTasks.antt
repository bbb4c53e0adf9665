-- Blocks of a feed that goes on.
use Rattle.std.proofs.Common.{◌≡◌, ◌≢◌, ◌≤◌, ℕ, ◌*◌, ◌/◌, length, List, [], ◌∷◌, ◌++◌, Option, Some, None, true, false, sym, ◌∙◌, ap, subst, append_assoc, append-nil}
use Rattle.saber_io.specs.declared.feeds.EndMark.{EndMark}
use Rattle.saber_io.specs.declared.feeds.EndMark.TheVariants as marks
use Rattle.saber_io.specs.Feeds.{Adds, Stays}
use Rattle.saber_plan.specs.declared.rows.Row.{Row}
use Rattle.saber_plan.specs.declared.windows.Mark.{Mark}
use Rattle.saber_plan.specs.declared.sizes.Sizes.{Sizes}
use Rattle.saber_plan.specs.Sizes.{limits_of}
use Rattle.saber_plan.specs.Rows.{Read}
use Rattle.saber_plan.specs.Trees.{Tree}
use Rattle.saber_plan.specs.Inputs.{Input, input, going_on}
use Rattle.saber_plan.specs.Tasks.{upto, task_count}
use Rattle.saber_rows.specs.Reader as readers
use Rattle.saber_rows.specs.Calls.{Moves}
use Rattle.saber_dispatch.specs.declared.ends.End.{End}
use Rattle.saber_dispatch.specs.declared.ends.End.TheVariants.{AllRead, Bad, ReadFault, TooWide, NoMemory}
use Rattle.saber_dispatch.specs.declared.cutter.Cutter.{Cutter}
use Rattle.saber_dispatch.specs.declared.fed_cutter.Begun.{Begun}
use Rattle.saber_dispatch.specs.declared.fed_cutter.FedCutter.{FedCutter}
use Rattle.saber_dispatch.specs.Readings.{Reading, one, two, reading_of, Suits, ReadMoves}
use Rattle.saber_dispatch.specs.Filling.{prepend}
use Rattle.saber_dispatch.specs.Cutting.{Cuts, fresh, end_of, told_end}
use Rattle.saber_dispatch.specs.Leaving.{GaveAll}
use Rattle.saber_plan.specs.Files.{wholes, input_of}
use Rattle.saber_dispatch.specs.Telling.{AreNear, AreTasks, EndsNear, EndsAs}
use Rattle.saber_dispatch.specs.FedReadings.{only, SawEnd, EndTold}
use Rattle.saber_dispatch.specs.Feeding.{Begins, Gave, Agrees, CutsFed}
use Rattle.saber_dispatch.specs.FeedLaws.{RefillsKeep, FedBlocksAreNear, FedBlocksAreTasks, LeavesWhole, CutsLeaveWholeTasks}
use Rattle.saber_dispatch.proofs.TaskBlocks.{told_is, blocks_are_near, blocks_are_tasks}
use Rattle.saber_dispatch.proofs.Leavings.{faults_leave_whole_tasks}
use Rattle.saber_dispatch.proofs.FedBlocks.{none_begun}

same_bytes : (a b : List ℕ) → ◌≡◌ {A = Option (List ℕ)} (Some a) (Some b) → a ≡ b
same_bytes a b e = cc

none_left : (a b : List ℕ) → a ≡ [] → b ≡ [] → a ++ b ≡ []
none_left a b h k = ap (λ x. x ++ b) h ∙ k

-- ---- more bytes come behind

module _ (f : Read → Read) (x y more : List ℕ) where
  moves_more : (a b : readers.Reader) → Moves f a b (Some x) (Some y) → (b.ended ≡ true → more ≡ []) → Moves f a b (Some (x ++ more)) (Some (y ++ more))
  moves_more a b m none = record {
    taken = m.taken;
    left = ap (λ z. Some (z ++ more)) (same_bytes x (m.taken ++ y) m.left) ∙ ap (λ z. Some z) (append_assoc m.taken y more);
    done = m.done;
    count = m.count;
    lines = m.lines;
    rest = m.rest;
    still = m.still;
    seen = λ unended ended. none_left y more (m.seen unended ended) (none ended);
  }

  read_more : (a b : Reading) → ReadMoves f a b (only x) (only y) → (SawEnd b → more ≡ []) → ReadMoves f a b (only (x ++ more)) (only (y ++ more))
  read_more (one a) (one b) m none = moves_more a b m none
  read_more (one a) (two b) m none = absurd m
  read_more (two a) (one b) m none = absurd m
  read_more (two a) (two b) m none = absurd m

  saw_on : (a b : Reading) → ReadMoves f a b (only x) (only y) → SawEnd a → SawEnd b
  saw_on (one a) (one b) m h = (m.still h).1
  saw_on (one a) (two b) m h = absurd m
  saw_on (two a) b m h = absurd h

  read_suits : (a b : Reading) (z : List ℕ) → ReadMoves f a b (only x) (only y) → Suits a (only z)
  read_suits (one a) b z m = tt
  read_suits (two a) (one b) z m = absurd m
  read_suits (two a) (two b) z m = absurd m

module _ (q : Tree) (s : Sizes) (taken more : List ℕ) where
  cuts_more : (there : List ℕ) (c : Cutter) (r : Input) → Cuts q s (only taken) (only there) c r → (SawEnd (reading_of c.reader) → more ≡ []) → Cuts q s (only (taken ++ more)) (only (there ++ more)) c r
  cuts_more there c r k none = record {
    windows = k.windows;
    sizes = k.sizes;
    made = k.made;
    dropped = k.dropped;
    took = record {
      moves = read_more (prepend (r.rows ++ k.dropped)) taken there more (fresh q (limits_of s)) (reading_of c.reader) k.took.moves none;
      fits = k.took.fits;
      ordered = k.took.ordered;
      reads = k.took.reads;
    };
    count = k.count;
    near = k.near;
    whole = k.whole;
    flushes = k.flushes;
    state = k.state;
  }

  module _ (waiting : List ℕ) (c : Cutter) (r : Input) (before : Mark) (rows : List Row) (b : Begins q s taken waiting c r before rows) (none : SawEnd (reading_of c.reader) → more ≡ []) where
    start_more : Cuts q s (only (taken ++ more)) (only (b.there ++ more)) b.start r
    start_more = cuts_more b.there b.start r b.cuts (λ h. none (saw_on (prepend b.filling.rows) b.there waiting more (reading_of b.start.reader) (reading_of c.reader) b.filling.took.moves h))

    begins_more : Begins q s (taken ++ more) (waiting ++ more) c r before rows
    begins_more = record {
      start = b.start;
      there = b.there ++ more;
      cuts = start_more;
      goes = b.goes;
      same = b.same;
      before_is = b.before_is;
      filling = record {
        rows = b.filling.rows;
        took = record {
          moves = read_more (prepend b.filling.rows) b.there waiting more (reading_of b.start.reader) (reading_of c.reader) b.filling.took.moves none;
          fits = b.filling.took.fits;
          ordered = b.filling.took.ordered;
          reads = b.filling.took.reads;
        };
        mark = b.filling.mark;
        kept = b.filling.kept;
        count = b.filling.count;
      };
      few = b.few;
      open_still = b.open_still;
    }

  gave_more : (waiting : List ℕ) (c : Cutter) (r : Input) (o : Option Begun) → Gave q s taken waiting c r o → (SawEnd (reading_of c.reader) → more ≡ []) → Gave q s (taken ++ more) (waiting ++ more) c r o
  gave_more waiting c r None g none = cuts_more waiting c r g none
  gave_more waiting c r (Some b) g none = begins_more waiting c r b.before b.rows g none

-- ---- a refill

some_mark : (mark : Option EndMark) (m : EndMark) → mark ≡ Some m → mark ≢ None
some_mark mark m e h = let f : Some m ≡ None = sym e ∙ h in cc

module _ (taken taken' waiting waiting' : List ℕ) (mark mark' : Option EndMark) (a : Adds taken taken' waiting waiting' mark mark') where
  mark_stands : (m : EndMark) → mark ≡ Some m → mark' ≡ Some m
  mark_stands m e = (a.behind (some_mark mark m e)).0 ∙ e

  told_more : (e : End) → EndTold e waiting mark → EndTold e waiting' mark'
  told_more AllRead t = mark_stands marks.End t
  told_more (ReadFault side) t = (a.waiting_is ∙ none_left waiting a.more t.0 (a.behind (some_mark mark marks.Cut t.1)).1, mark_stands marks.Cut t.1)
  told_more (Bad side line cause) t = tt
  told_more (TooWide task needs) t = tt
  told_more NoMemory t = tt

  none_behind : (c : Cutter) → Agrees c waiting mark → SawEnd (reading_of c.reader) → a.more ≡ []
  none_behind c g h = (a.behind (some_mark mark marks.End (g.seen h))).1

  adds_keep : (q : Tree) (s : Sizes) (c : FedCutter) (r : Input) → CutsFed q s taken waiting mark c r → CutsFed q s taken' waiting' mark' c r
  adds_keep q s c r k = record {
    gave = subst (λ (t : List ℕ). Gave q s t waiting' c.cutter r c.begun) (sym a.taken_is) (subst (λ (w : List ℕ). Gave q s (taken ++ a.more) w c.cutter r c.begun) (sym a.waiting_is)
        (gave_more q s taken a.more waiting c.cutter r c.begun k.gave (none_behind c.cutter k.agrees)));
    agrees = record { seen = λ h. mark_stands marks.End (k.agrees.seen h); told = λ e h. told_more e (k.agrees.told e h) };
  }

stays_keep : (taken taken' waiting waiting' : List ℕ) (mark mark' : Option EndMark) → Stays taken taken' waiting waiting' mark mark' → (q : Tree) (s : Sizes) (c : FedCutter) (r : Input) → CutsFed q s taken waiting mark c r → CutsFed q s taken' waiting' mark' c r
stays_keep taken taken' waiting waiting' mark mark' h q s c r k =
    subst (λ (t : List ℕ). CutsFed q s t waiting' mark' c r) (sym h.taken_is) (subst (λ (w : List ℕ). CutsFed q s taken w mark' c r) (sym h.waiting_is)
    (subst (λ (m : Option EndMark). CutsFed q s taken waiting m c r) (sym h.mark_is) k))

pub refills_keep : RefillsKeep
refills_keep q s taken taken' waiting waiting' mark mark' c r true k h = adds_keep taken taken' waiting waiting' mark mark' h q s c r k
refills_keep q s taken taken' waiting waiting' mark mark' c r false k h = stays_keep taken taken' waiting waiting' mark mark' h q s c r k

-- ---- a file that goes on

no_end : (c start : Cutter) → c ≡ record start { reader = c.reader; mark = c.mark } → start.ended ≡ None → end_of c ≡ None
no_end c start e h = ap (told_end c.flush c.number) (ap (λ (x : Cutter). x.ended) e ∙ h)

near_of : (q : Tree) (s : Sizes) (taken waiting : List ℕ) (c : Cutter) (r : Input) (o : Option Begun) → Gave q s taken waiting c r o → AreNear q s c r
near_of q s taken waiting c r None g = blocks_are_near q s (only taken) (only waiting) c r g
near_of q s taken waiting c r (Some b) g = record {
  given = (blocks_are_near q s (only taken) (only g.there) g.start r g.cuts).given;
  told = subst (λ (e : Option End). EndsNear q s r e) (sym (no_end c g.start g.same g.goes)) tt;
}

pub fed_blocks_are_near : FedBlocksAreNear
fed_blocks_are_near q s taken waiting mark c r k = near_of q s taken waiting c.cutter r c.begun k.gave

tasks_cut : (q : Tree) (s : Sizes) (all there : List ℕ) (c : Cutter) (r : Input) → Cuts q s (only all) (only there) c r → AreTasks q s c r (input_of q (limits_of s) (all ∷ []))
tasks_cut q s all there c r k =
    blocks_are_tasks q s (all ∷ []) (only there) c r (read_suits (prepend (r.rows ++ k.dropped)) all there [] (fresh q (limits_of s)) (reading_of c.reader) all k.took.moves) k

tasks_of : (q : Tree) (s : Sizes) (taken waiting more : List ℕ) (c : Cutter) (r : Input) (o : Option Begun) → Gave q s taken waiting c r o → (SawEnd (reading_of c.reader) → more ≡ []) → AreTasks q s c r (input_of q (limits_of s) ((taken ++ more) ∷ []))
tasks_of q s taken waiting more c r None g none = tasks_cut q s (taken ++ more) (waiting ++ more) c r (cuts_more q s taken more waiting c r g none)
tasks_of q s taken waiting more c r (Some b) g none = record {
  tasks = (tasks_cut q s (taken ++ more) (g.there ++ more) g.start r (start_more q s taken more waiting c r b.before b.rows g none)).tasks;
  ends = subst (λ (e : Option End). EndsAs q s e r (input_of q (limits_of s) ((taken ++ more) ∷ []))) (sym (no_end c g.start g.same g.goes)) tt;
}

pub fed_blocks_are_tasks : FedBlocksAreTasks
fed_blocks_are_tasks q s taken waiting all mark c r k g =
    subst (λ (z : List ℕ). AreTasks q s c.cutter r (input_of q (limits_of s) (z ∷ []))) (sym g.all_is) (tasks_of q s taken waiting g.more c.cutter r c.begun k.gave (λ h. g.ended (k.agrees.seen h)))

-- ---- a feed that was cut off

gave_one : (taken waiting : List ℕ) (ts : List (List ℕ)) → GaveAll (only taken) ts (only waiting) → waiting ≡ [] → ts ≡ taken ∷ []
gave_one taken waiting [] g e = absurd g
gave_one taken waiting (t ∷ []) g e =
    let same : taken ≡ t = same_bytes taken (t ++ waiting) g.0 ∙ ap (λ z. t ++ z) e ∙ append-nil t in
    ap (λ z. z ∷ []) (sym same)
gave_one taken waiting (t ∷ u ∷ ts) g e = absurd g.1

whole_one : (q : Tree) (s : Sizes) (taken : List ℕ) (r : Input) (ts : List (List ℕ)) → ts ≡ taken ∷ []
    → length (input (wholes q (limits_of s) ts)).rows / s.task ≤ task_count s.task r
    → ((k : ℕ) → k * s.task ≤ length (input (wholes q (limits_of s) ts)).rows → upto s.task r k ≡ upto s.task (going_on (input (wholes q (limits_of s) ts)).rows) k)
    → LeavesWhole q s taken r
whole_one q s taken r ts e count parts = record {
  count = subst (λ (z : List (List ℕ)). length (input (wholes q (limits_of s) z)).rows / s.task ≤ task_count s.task r) e count;
  tasks = subst (λ (z : List (List ℕ)). (k : ℕ) → k * s.task ≤ length (input (wholes q (limits_of s) z)).rows → upto s.task r k ≡ upto s.task (going_on (input (wholes q (limits_of s) z)).rows) k) e parts;
}

pub cuts_leave_whole_tasks : CutsLeaveWholeTasks
cuts_leave_whole_tasks q s taken waiting mark c r side k e =
    let is = told_is c.cutter.flush c.cutter.number c.cutter.ended (ReadFault side) e in
    let w = faults_leave_whole_tasks q s (only taken) (only waiting) c.cutter r side (none_begun q s taken waiting c.cutter r c.begun (ReadFault side) is.0 k.gave).1 e in
    whole_one q s taken r w.taken (gave_one taken waiting w.taken w.left (k.agrees.told (ReadFault side) is.0).0) w.count w.tasks
