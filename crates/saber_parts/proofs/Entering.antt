-- One window after the others.
use Rattle.std.proofs.Common.{◌≡◌, List, ◌++◌, ◌∙◌, ap, append_assoc}

pub gave_more : {X : Type 0} (old new here rest all : List X) → new ≡ old ++ here → old ++ (here ++ rest) ≡ all → new ++ rest ≡ all
gave_more old new here rest all e h = ap (λ l. l ++ rest) e ∙ append_assoc old here rest ∙ h
