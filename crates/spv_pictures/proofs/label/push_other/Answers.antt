use Rattle.std.proofs.Common.{◌≡◌, ◌++◌, ◌∙◌, ℕ, true, false, flat_map, ap, sym, string_bytes}
use Rattle.std.specs.Prelude.{encode_utf8, if◌then◌else◌}
use Rattle.spv_lines.specs.Plain.{escaped}
use Rattle.spv_pictures.specs.Label.{drawn, is_hidden, marked}
use Rattle.spv_pictures.specs.inner.Free.{is_free}
use Rattle.spv_pictures.proofs.Added.{on_pushed}
use Rattle.spv_pictures.proofs.Labels.{all_as_is, encode_free}
use Rattle.spv_pictures.proofs.label.push_other.Goals as goal

shown : (c : ℕ) → is_free c ≡ true → is_hidden c ≡ false → encode_utf8 c ≡ flat_map marked (drawn c)
shown c f h = sym (ap (λ b. flat_map marked (if b then flat_map escaped (encode_utf8 c) else encode_utf8 c)) h
    ∙ all_as_is (encode_utf8 c) (encode_free c f))

pub returns : goal.returns
returns c =
    on_pushed c.push.result _ (string_bytes c.push.new.self) (string_bytes c.args.out.now)
    (encode_utf8 c.args.character) c.push.ensures.bytes (λ p.
    p ∙ ap (λ z. string_bytes c.args.out.now ++ z)
    (shown c.args.character c.requires (sym c.is_hidden.ensures ∙ c.if-is_hidden.false)))
