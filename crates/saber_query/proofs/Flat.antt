-- The words of what is asked, one part after the other.
use Rattle.std.proofs.Common.{◌≡◌, List, ◌∷◌, ◌++◌, Option, ◌∙◌, ap, append_assoc}
use Rattle.saber_query.specs.declared.token.Keyword.TheVariants as k
use Rattle.saber_query.specs.declared.token.Token.{Token}
use Rattle.saber_query.specs.declared.token.Token.TheVariants.{Word}
use Rattle.saber_query.specs.declared.tree.StreamWord.{StreamWord}
use Rattle.saber_query.specs.Trees.{Asked}
use Rattle.saber_query.specs.Words.{item_words, items_words, source_words, second_source_words, where_words, group_words, opened_words, shut_words, asked_words, body_words}

six : (i j f o p g z : List Token) →
    (Word k.Select ∷ (i ++ (j ++ Word k.From ∷ (f ++ (o ++ (p ++ g)))))) ++ z ≡ Word k.Select ∷ (i ++ (j ++ Word k.From ∷ (f ++ (o ++ (p ++ (g ++ z))))))
six i j f o p g z =
    let a = p ++ g in
    let b = o ++ a in
    let c = f ++ b in
    let d = Word k.From ∷ c in
    let e = j ++ d in
    ap (λ y. Word k.Select ∷ y) (append_assoc i e z
    ∙ ap (λ y. i ++ y) (append_assoc j d z
    ∙ ap (λ y. j ++ Word k.From ∷ y) (append_assoc f b z
    ∙ ap (λ y. f ++ y) (append_assoc o a z
    ∙ ap (λ y. o ++ y) (append_assoc p g z)))))

-- what is asked, before other words
pub asked_flat : (a : Asked) (z : List Token) →
    asked_words a ++ z ≡ Word k.Select ∷ (item_words a.item ++ (items_words a.items ++ Word k.From ∷ (source_words a.from ++ (second_source_words a.second ++ (where_words a.predicate ++ (group_words a.group ++ z))))))
asked_flat a z = six (item_words a.item) (items_words a.items) (source_words a.from) (second_source_words a.second) (where_words a.predicate) (group_words a.group) z

-- and with its word
pub body_flat : (o : Option StreamWord) (a : Asked) (z : List Token) →
    body_words o a ++ z ≡ opened_words o ++ Word k.Select ∷ (item_words a.item ++ (items_words a.items ++ Word k.From ∷ (source_words a.from ++ (second_source_words a.second ++ (where_words a.predicate ++ (group_words a.group ++ (shut_words o ++ z)))))))
body_flat o a z =
    append_assoc (opened_words o) (asked_words a ++ shut_words o) z
    ∙ ap (λ y. opened_words o ++ y) (append_assoc (asked_words a) (shut_words o) z ∙ asked_flat a (shut_words o ++ z))
