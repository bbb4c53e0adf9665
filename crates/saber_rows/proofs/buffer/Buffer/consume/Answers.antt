use Rattle.saber_rows.proofs.BufferLemmas.{consumed}
use Rattle.saber_rows.proofs.buffer.Buffer.consume.Goals as goal

pub returns : goal.returns
returns c = consumed c.args.self.now.buf.items c.args.self.now.at c.args.self.now.end c.args.n c.requires
