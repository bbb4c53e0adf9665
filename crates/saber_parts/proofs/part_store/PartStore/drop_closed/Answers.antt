use Rattle.std.proofs.Common.{rules}
use Rattle.saber_parts.proofs.Dropping.{kept_all}
use Rattle.saber_parts.proofs.part_store.PartStore.drop_closed.Goals as goal

pub returns-clause-parts : goal.returns-clause-parts
returns-clause-parts g c = kept_all _ (λ f. f.0.now) (λ f k v b w x t. record { test = search rules; value = search rules; same = search rules }) _ c.args.self.now.parts.entries c.retain.new.self.entries c.retain.ensures.filtered
