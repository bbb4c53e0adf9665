use Rattle.std.proofs.Common.{arith, ap₂, ◌≡◌, [], ◌++◌, drop, take, Some, ℕ, ◌-◌, ◌+◌, ap, ◌∙◌, sym, subst, List}
use Rattle.saber_demo.specs.Generator.{upper}
use Rattle.saber_demo.specs.Rows.{lines_from, row_of}
use Rattle.saber_demo.proofs.Sources.{next_line, some_given, some_line, none_from, none_left}
use Rattle.saber_demo.proofs.source.GeneratedSource.read.Goals.{then-self-len+then-self, else-self-len, else-self-len-via-then-self-len+else-self, else-self-len-via-else-self-len}
use Rattle.saber_demo.proofs.source.GeneratedSource.read.Goals as goal

pub returns-clause-bytes : goal.returns-clause-bytes
returns-clause-bytes c =
    let f = c.if-self-len.self-inside in
    let bytes = c.as_bytes.ensures.value ∙ c.as_str.ensures.value in
    let given = subst (λ (l : List ℕ). drop f.given l ≡ take c.give-size.result c.give-size.new.buf ++ drop (f.given + c.give-size.result) l) bytes c.give-size.ensures.given in
    let now : drop f.given f.line.bytes ++ lines_from f.state f.made (f.rows - f.made) ≡ c.args.self.now = elim c.if-self-len.branch [
      | then-self-len+then-self w ↦
          let all = w.if-self-len.true ∙ c.len.ensures.value in
          let row = next_line c.self.inside.state c.self.inside.made c.self.inside.rows c.self.inside.given c.self.inside.line.bytes all w.if-self.true in
          rw (w.self-inside-is, w.write_row.ensures, w.step-state.ensures.next) (row ∙ c.self.view_is)
      | else-self-len w ↦ rw w.self-inside-is c.self.view_is
    ] in
    ap Some (sym now ∙ some_given f.line.bytes _ _ f.given c.give-size.result given)

pub returns-clause-end : goal.returns-clause-end
returns-clause-end c = λ none.
    let f = c.if-self-len.self-inside in
    let zero : c.give-size.result ≡ 0 = cc in
    let bytes = c.as_bytes.ensures.value ∙ c.as_str.ensures.value in
    let empty : drop f.given f.line.bytes ≡ [] = ap (drop f.given) (sym bytes) ∙ c.give-size.ensures.some zero in
    elim c.if-self-len.branch [
      | then-self-len+then-self w ↦
          let row = rw (w.self-inside-is, w.write_row.ensures) at empty in
          absurd (some_line (row_of c.self.inside.made (upper w.step-state.result)) row)
      | else-self-len w ↦
          let before : drop c.self.inside.given c.self.inside.line.bytes ≡ [] = rw w.self-inside-is at empty in
          let given = none_from c.self.inside.given c.self.inside.line.bytes before in
          let same : c.self.inside.given ≡ c.len.result = omega (arith, c.len.ensures.value, c.self.invariant.2) in
          elim w.else-self-len.branch [
            | else-self-len-via-then-self-len+else-self v ↦ sym c.self.view_is ∙ ap₂ ◌++◌ before (none_left c.self.inside.state c.self.inside.made c.self.inside.rows v.if-self.false)
            | else-self-len-via-else-self-len v ↦ absurd (v.if-self-len.false same)
          ]
    ]
