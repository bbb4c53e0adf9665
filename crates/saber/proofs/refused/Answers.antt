use Rattle.saber.proofs.refused.Goals as goal

pub returns : goal.returns
returns g c =
    let says = c.refuse_words.ensures in
    record { noted = c.refuse_words.result.noted; status_is = says.status; notes = says.notes }
