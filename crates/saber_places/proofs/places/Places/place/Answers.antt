use Rattle.std.proofs.Common.{◌≡◌, ◌++◌, refl, ◌∙◌}
use Rattle.saber_plan.specs.Answers.{key}
use Rattle.saber_places.proofs.Counted.{stands_at, is_small, counts_more}
use Rattle.saber_places.proofs.places.Places.place.Goals as goal

pub count_one-requires : goal.count_one-requires
count_one-requires c =
    let (q, xs, k, f, small) = c.requires in
    let is : c.push_list.new.list.items ≡ key c.args.self.now.columns.items c.args.row.now.values = c.push_list.ensures ∙ (λ i. c.new-list.ensures i ++ key (c.deref.ensures.value i) (c.values.ensures i)) in
    record {
      small = is_small q xs c.args.self.now c.args.row.now k c.push_list.new.list.items is small;
      long = k.long;
    }

pub returns-clause-stands : goal.returns-clause-stands
returns-clause-stands c q xs k =
    let is : c.push_list.new.list.items ≡ key c.args.self.now.columns.items c.args.row.now.values = c.push_list.ensures ∙ (λ i. c.new-list.ensures i ++ key (c.deref.ensures.value i) (c.values.ensures i)) in
    c.in_ok-place.ensures.was ∙ stands_at q xs c.args.self.now c.args.row.now k c.push_list.new.list.items is

pub returns-clause-counts : goal.returns-clause-counts
returns-clause-counts c q xs k =
    let is : c.push_list.new.list.items ≡ key c.args.self.now.columns.items c.args.row.now.values = c.push_list.ensures ∙ (λ i. c.new-list.ensures i ++ key (c.deref.ensures.value i) (c.values.ensures i)) in
    counts_more q xs c.args.self.now c.args.row.now k c.push_list.new.list.items is (record { columns = c.args.self.now.columns; known = c.count_one.new.known; counts = c.count_one.new.counts }) refl c.in_ok-place.ensures.counted c.in_ok-place.ensures.long
