use Rattle.std.proofs.Common.{rules, ◌≡◌, Some, option_map}
use Rattle.saber_io.specs.Memory.{file_named, opened_file}
use Rattle.saber_io.proofs.Contents.{opens-first}
use Rattle.saber_io.proofs.files.MemFilesFiles.open_file.Goals as goal

pub returns-in-Some-clause-opens : goal.returns-in-Some-clause-opens
returns-in-Some-clause-opens c =
    let found : option_map opened_file (file_named c.args.self.now.files c.args.name.now) ≡ Some c.in-Some.source = search rules in
    opens-first c.args.self.now.files c.args.name.now c.in-Some.source found

pub returns-in-None-clause-cause : goal.returns-in-None-clause-cause
returns-in-None-clause-cause c = λ _. rw c.in-None.is at c.in_ok-source.ensures.none
