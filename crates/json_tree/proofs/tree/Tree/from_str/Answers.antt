use Rattle.std.proofs.Common.{◌≡◌, [], Some, sym, ap, ◌∙◌, arith}
use Rattle.json.specs.Lex.{tokens}
use Rattle.json.specs.Json.{value}
use Rattle.serde_json.specs.Read.{max_depth, of_json, converted}
use Rattle.json_tree.specs.View.{view}
use Rattle.json_tree.proofs.Reading.{whole_read}
use Rattle.json_tree.proofs.Runs.{whole_alone}
use Rattle.json_tree.proofs.tree.Tree.from_str.Goals as goal

pub of_nodes-requires-clause-some : goal.of_nodes-requires-clause-some
of_nodes-requires-clause-some c =
    let one = c.in_ok-read.ensures.ok.2 in
    let w = whole_alone c.reserve.new.self c.read.new.nodes c.in_ok-read.ensures.ok.0 (c.reserve.ensures ∙ c.new-nodes.ensures) one in
    w.long

pub of_nodes-requires-clause-whole : goal.of_nodes-requires-clause-whole
of_nodes-requires-clause-whole c =
    let one = c.in_ok-read.ensures.ok.2 in
    let w = whole_alone c.reserve.new.self c.read.new.nodes c.in_ok-read.ensures.ok.0 (c.reserve.ensures ∙ c.new-nodes.ensures) one in
    w.some

pub returns-clause-ok : goal.returns-clause-ok
returns-clause-ok c =
    let d = c.in_ok-read.ensures.ok.0 in
    let one = c.in_ok-read.ensures.ok.2 in
    let w = whole_alone c.reserve.new.self c.read.new.nodes d (c.reserve.ensures ∙ c.new-nodes.ensures) one in
    let over : c.read.new.reader ≡ [] = grind arith in
    let first : c.in_ok-reader.reader ≡ tokens c.args.text.now = c.in_ok-reader.ensures.ok in
    whole_read (value max_depth (tokens c.args.text.now)) d (ap (λ ts. converted of_json (value max_depth ts)) (sym first) ∙ c.in_ok-read.ensures.ok.1 ∙ ap (λ ts. Some (d, ts)) over)
    ∙ ap (λ x. Some x) (sym (ap view c.of_nodes.ensures ∙ w.is))
