use Rattle.std.proofs.Common.{◌≡◌, suc, ◌+◌, pos, [], ◌∷◌, ◌++◌, take, get_or, sym, ◌∙◌, ap, arith, rules, w64, SFits, to_z-of_z}
use Rattle.std.proofs.Math.Seq.{take-suc}
use Rattle.std.proofs.lemmas.List.{take_all}
use Rattle.saber_flat.specs.Places.{Building}
use Rattle.saber_rows.proofs.heads.put_numbers.Goals as goal

pub loop-i-preserved : goal.loop-i-preserved
loop-i-preserved c =
    let numbers = c.args.numbers.now in
    let i = c.loop-i.i in
    let next : suc i ≡ i + 1 = omega arith in
    let fits : SFits w64 (get_or numbers i (pos 0)) = search rules in
    let put : c.put.new.self ≡ record { rows = c.loop-i.out.rows; begun = c.loop-i.out.begun ++ get_or numbers i (pos 0) ∷ [] } = simp to_z-of_z at c.in_ok-put.ensures.ok in
    record {
      rows = ap (λ (b : Building). b.rows) put ∙ c.loop-i.invariant.rows;
      begun = ap (λ (b : Building). b.begun) put ∙ ap (λ xs. xs ++ get_or numbers i (pos 0) ∷ []) c.loop-i.invariant.begun
          ∙ sym (take-suc numbers i (pos 0) (omega (arith, c.loop-i-test.true))) ∙ ap (λ k. take k numbers) next;
    }

pub returns-clause-numbers : goal.returns-clause-numbers
returns-clause-numbers c = c.loop-i.invariant.begun ∙ take_all c.loop-i.i c.args.numbers.now c.loop-i-test.false
