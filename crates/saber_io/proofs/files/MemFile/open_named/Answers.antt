use Rattle.std.proofs.Common.{Some, ap, sym, ◌∙◌, option_copied, option_map}
use Rattle.saber_io.specs.Memory.{opened_file}
use Rattle.saber_io.specs.Files.{file_of}
use Rattle.saber_io.proofs.Contents.{file_named-map}
use Rattle.saber_io.proofs.files.MemFile.open_named.Goals as goal

pub returns-in-None : goal.returns-in-None
returns-in-None c =
    let found = sym c.named.ensures ∙ ap option_copied c.in-None.is in
    ap (option_map opened_file) (file_named-map c.args.files.now c.args.name.now ∙ ap (option_map file_of) found)

pub returns-in_ok-placed-in-Some : goal.returns-in_ok-placed-in-Some
returns-in_ok-placed-in-Some c =
    let found = sym c.named.ensures ∙ ap option_copied c.in-Some.is in
    ap (option_map opened_file) (file_named-map c.args.files.now c.args.name.now ∙ ap (option_map file_of) found) ∙ ap Some (sym (c.in_ok-placed-in-Some.ensures ∙ c.in_ok-source-in-Some.ensures))
