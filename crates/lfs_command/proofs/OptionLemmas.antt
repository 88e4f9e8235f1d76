-- What a parse reads of an argument grows with each part that it is given: the rule is that of the
-- argument before, but for that part.
use Rattle.std.proofs.Common.{◌≡◌, ◌∙◌, List, Some, ap, ℕ}
use Rattle.std.specs.Borrow.{Bor}
use Rattle.clap.specs.Simple.{new_rule}
use Rattle.clap.specs.Walk.{Rule, rule_of}
use Rattle.clap.specs.declared.builder.action.ArgAction.{ArgAction}
use Rattle.clap.specs.declared.builder.arg.Arg.{Arg}
use Rattle.clap.specs.declared.builder.texts.Texts.TheVariants.{One}
use Rattle.clap.specs.declared.builder.value_parser.ValueParser.{ValueParser}

-- an argument with a long name, a name of its value, a parser and a help
pub ruled : (made long named parsed helped : Arg) (name value help : Bor (List ℕ)) (given parser : ValueParser)
    → rule_of made ≡ new_rule name.now → long ≡ record made { long = Some name }
    → named ≡ record long { val_names = One value } → parsed ≡ record named { value_parser = parsed.value_parser }
    → parsed.value_parser ≡ Some given → given ≡ parser → helped ≡ record parsed { help = Some help }
    → rule_of helped
    ≡ record (new_rule name.now) { long = Some name.now; value_names = 1; parser = Some parser }
ruled made long named parsed helped name value help given parser is with_long with_name with_parser gives same with_help =
    ap rule_of with_help
    ∙ ap rule_of with_parser
    ∙ ap (λ x. record (rule_of named) { parser = x }) (gives ∙ ap Some same)
    ∙ ap (λ (r : Rule). record r { parser = Some parser })
    (ap rule_of with_name ∙ ap (λ (r : Rule). record r { value_names = 1 })
    (ap rule_of with_long ∙ ap (λ (r : Rule). record r { long = Some name.now }) is))

-- one with a long name, an action and a help
pub flagged : (made long acted helped : Arg) (name help : Bor (List ℕ)) (action : ArgAction)
    → rule_of made ≡ new_rule name.now → long ≡ record made { long = Some name }
    → acted ≡ record long { action = Some action } → helped ≡ record acted { help = Some help }
    → rule_of helped ≡ record (new_rule name.now) { long = Some name.now; action = Some action }
flagged made long acted helped name help action is with_long with_action with_help =
    ap rule_of with_help
    ∙ ap rule_of with_action
    ∙ ap (λ (r : Rule). record r { action = Some action })
    (ap rule_of with_long ∙ ap (λ (r : Rule). record r { long = Some name.now }) is)

-- one with a long name, a name of its value, an action and a help
pub valued : (made long named acted helped : Arg) (name value help : Bor (List ℕ)) (action : ArgAction)
    → rule_of made ≡ new_rule name.now → long ≡ record made { long = Some name }
    → named ≡ record long { val_names = One value } → acted ≡ record named { action = Some action }
    → helped ≡ record acted { help = Some help }
    → rule_of helped ≡ record (new_rule name.now) { long = Some name.now; value_names = 1; action = Some action }
valued made long named acted helped name value help action is with_long with_name with_action with_help =
    ap rule_of with_help
    ∙ ap rule_of with_action
    ∙ ap (λ (r : Rule). record r { action = Some action })
    (ap rule_of with_name ∙ ap (λ (r : Rule). record r { value_names = 1 })
    (ap rule_of with_long ∙ ap (λ (r : Rule). record r { long = Some name.now }) is))

-- one with a name of its value, an action and a help
pub placed : (made named acted helped : Arg) (name value help : Bor (List ℕ)) (action : ArgAction)
    → rule_of made ≡ new_rule name.now → named ≡ record made { val_names = One value }
    → acted ≡ record named { action = Some action } → helped ≡ record acted { help = Some help }
    → rule_of helped ≡ record (new_rule name.now) { value_names = 1; action = Some action }
placed made named acted helped name value help action is with_name with_action with_help =
    ap rule_of with_help
    ∙ ap rule_of with_action
    ∙ ap (λ (r : Rule). record r { action = Some action })
    (ap rule_of with_name ∙ ap (λ (r : Rule). record r { value_names = 1 }) is)
