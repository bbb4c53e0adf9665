use Rattle.std.proofs.Common.{ℕ, sym, ◌∙◌, subst}
use Rattle.saber_plan.specs.Inputs.{Input}
use Rattle.saber_fragment.specs.Shown.{shares_of}
use Rattle.saber_changes.specs.declared.output.Output.{Output}
use Rattle.saber_changes.specs.declared.output.Output.TheVariants.{Delta}
use Rattle.saber_parts.specs.Stored.{parts_by, parts_from}
use Rattle.saber_parts.specs.Changing.{Handed}
use Rattle.saber_parts.proofs.Taken.{Next, Took, continues, each_took, hands, closed_is, delta_took}
use Rattle.saber_parts.proofs.part_store.PartStore.take_in.Given as given
use Rattle.saber_parts.proofs.part_store.PartStore.take_in.Goals as goal

pub settle-requires : goal.settle-requires
settle-requires g c =
    let q = g.A.Assembles.plan c.args.by.now in
    let parts = parts_by g.A.Assembles.shown c.args.self.now.parts.entries in
    let s = shares_of g.A.Assembles.shown c.args.piece in
    let (r, x, y, f) = c.requires in
    continues q parts s r x y (subst (λ (o : Output). Next q parts o s r x y) c.in-Each.is f)

pub settle_changes-requires : goal.settle_changes-requires
settle_changes-requires g c =
    let q = g.A.Assembles.plan c.args.by.now in
    let parts = parts_by g.A.Assembles.shown c.args.self.now.parts.entries in
    let s = shares_of g.A.Assembles.shown c.args.piece in
    let (r, x, y, f) = c.requires in
    (r, x, y, hands q parts s r x y c.in-Delta.change c.in-Delta.walk (subst (λ (o : Output). Next q parts o s r x y) c.in-Delta.is f))

each_case : (g : given.Over) (c : goal.In_ok-settle-in-Each g) (r : Input) (x y : ℕ)
    → Next (g.A.Assembles.plan c.args.by.now) (parts_by g.A.Assembles.shown c.args.self.now.parts.entries) c.args.self.now.output (shares_of g.A.Assembles.shown c.args.piece) r x y
    → Took (g.A.Assembles.plan c.args.by.now) (parts_from g.A.Assembles.shown c.args.piece.closed_below c.settle.new.store.entries) c.args.self.now.output c.args.out.now.items c.settle.new.out.items r x y
each_case g c r x y f =
    let q = g.A.Assembles.plan c.args.by.now in
    let parts = parts_by g.A.Assembles.shown c.args.self.now.parts.entries in
    let s = shares_of g.A.Assembles.shown c.args.piece in
    let left = parts_from g.A.Assembles.shown c.args.piece.closed_below c.settle.new.store.entries in
    let old = c.args.out.now.items in
    let new = c.settle.new.out.items in
    subst (λ (o : Output). Took q left o old new r x y) (sym c.in-Each.is)
    (each_took q parts s r x y (subst (λ (o : Output). Next q parts o s r x y) c.in-Each.is f) left old new c.in_ok-settle-in-Each.ensures.text c.in_ok-settle-in-Each.ensures.taken)

delta_case : (g : given.Over) (c : goal.In_ok-settle_changes-in-Delta g) (r : Input) (x y : ℕ)
    → Next (g.A.Assembles.plan c.args.by.now) (parts_by g.A.Assembles.shown c.args.self.now.parts.entries) c.args.self.now.output (shares_of g.A.Assembles.shown c.args.piece) r x y
    → Took (g.A.Assembles.plan c.args.by.now) (parts_from g.A.Assembles.shown c.args.piece.closed_below c.settle_changes.new.store.entries) (Delta c.in-Delta.change c.settle_changes.new.walk) c.args.out.now.items c.settle_changes.new.out.items r x y
delta_case g c r x y f =
    let q = g.A.Assembles.plan c.args.by.now in
    let shown = g.A.Assembles.shown in
    let parts = parts_by shown c.args.self.now.parts.entries in
    let s = shares_of shown c.args.piece in
    let es = c.settle_changes.new.store.entries in
    let walk = c.settle_changes.new.walk in
    let old = c.args.out.now.items in
    let new = c.settle_changes.new.out.items in
    let next = subst (λ (o : Output). Next q parts o s r x y) c.in-Delta.is f in
    let handed = c.in_ok-settle_changes-in-Delta.ensures.ok r x y (hands q parts s r x y c.in-Delta.change c.in-Delta.walk next) in
    delta_took q parts s r x y c.in-Delta.change c.in-Delta.walk next (parts_from shown c.args.piece.closed_below es) walk old new
    (subst (λ (n : ℕ). Handed c.in-Delta.change q (parts_from shown n es) walk old new r x y) (handed.next ∙ closed_is q parts s r x y c.in-Delta.change c.in-Delta.walk next) handed)

pub returns-in_ok-settle-in-Each-clause-text : goal.returns-in_ok-settle-in-Each-clause-text
returns-in_ok-settle-in-Each-clause-text g c r x y f = (each_case g c r x y f).adds

pub returns-in_ok-settle-in-Each-clause-stays : goal.returns-in_ok-settle-in-Each-clause-stays
returns-in_ok-settle-in-Each-clause-stays g c r x y f = (each_case g c r x y f).stays

pub returns-in_ok-settle-in-Each-clause-taken : goal.returns-in_ok-settle-in-Each-clause-taken
returns-in_ok-settle-in-Each-clause-taken g c r x y f = (each_case g c r x y f).taken

pub returns-in_ok-settle_changes-in-Delta-clause-text : goal.returns-in_ok-settle_changes-in-Delta-clause-text
returns-in_ok-settle_changes-in-Delta-clause-text g c r x y f = (delta_case g c r x y f).adds

pub returns-in_ok-settle_changes-in-Delta-clause-stays : goal.returns-in_ok-settle_changes-in-Delta-clause-stays
returns-in_ok-settle_changes-in-Delta-clause-stays g c r x y f = (delta_case g c r x y f).stays

pub returns-in_ok-settle_changes-in-Delta-clause-taken : goal.returns-in_ok-settle_changes-in-Delta-clause-taken
returns-in_ok-settle_changes-in-Delta-clause-taken g c r x y f = (delta_case g c r x y f).taken
