use Rattle.std.proofs.Common.{◌≡◌, ◌<◌, ◌+◌, length, sym, ◌∙◌, ap, subst, arith, rules, get_or}
use mir.Val.{to_z, of_z}
use mir.Syntax.{w64}
use Rattle.saber_join.specs.declared.shelf.Kept.{Kept}
use Rattle.saber_join.specs.Shelves.{bucket_of}
use Rattle.std.proofs.lemmas.List.{get_or_default}
use Rattle.saber_join.proofs.Linking.{put_all}
use Rattle.saber_join.proofs.shelf.Shelf.put.Goals as goal

pub invariant_of-self-2 : goal.invariant_of-self-2
invariant_of-self-2 c =
    let z = to_z w64 (of_z w64 c.args.key) in
    let mask = c.self.inside.mask in
    let last = c.self.inside.last.items in
    let ks = c.self.inside.rows.items in
    let k : Kept = record { seen = c.args.seen; key = z; first = c.args.first; past = c.args.past; high = c.max-high.result; previous = c.index-previous.result.now } in
    let linked = c.self.invariant.2 in
    let all = c.self.invariant.1 in
    let grown = c.in_ok-push.ensures.items in
    let is = c.bucket-bucket.ensures.bucket in
    let there : bucket_of mask z < length last = let long = linked.buckets in let low = c.bucket-bucket.ensures.below in omega (arith, long, low, is) in
    let previous = c.index-previous.ensures ∙ get_or_default last c.bucket-bucket.result c.index-previous.result.now 0 (subst (λ b. b < length last) (sym is) there) ∙ ap (λ b. get_or last b 0) is in
    let count : c.len.result ≡ length ks + 1 = search rules in
    let both = put_all mask c.self.inside.high last ks k linked all there previous c.max-high.ensures c.bucket-bucket.result c.len.result c.push.new.self.items is count grown in
    (c.self.invariant.0, both.0, both.1)
