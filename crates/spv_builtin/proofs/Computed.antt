-- The constants pass the tests, which is computed.
use Rattle.std.proofs.Common.{◌≡◌, ◌<◌, true, nat_lt, length, map, refl, ltb-true}
use Rattle.std.specs.List.{list_all}
use Rattle.std.specs.Str.{IsAscii}
use Rattle.std.specs.Hash.FoldHasher as folding
use Rattle.spv_table.specs.Table.{IsWhole, is_sound, has_other_parts}
use Rattle.spv_builtin.specs.declared.constants.TheConstants.{TEXT, ITEMS, KINDS, ENUMERANTS, ENTRIES, RESULTS, FRONTS, KIND_SLOTS, SLOTS, ENTRY_SLOTS, NEAR, PLACES, FORMS}
use Rattle.spv_table.specs.declared.row.EntryRow.{EntryRow}
use Rattle.spv_table.specs.declared.row.KindRow.{KindRow}
use Rattle.spv_table.specs.inner.Form.{form_of}
use Rattle.spv_builtin.specs.BuiltIn.{built_in}
use Rattle.spv_builtin.specs.inner.Slots.{is_ascii, follow, cut, is_held, are_held, find, never_down, passes}
use Rattle.spv_builtin.specs.inner.Places.{fill, rise, first_place, are_first, are_counted}
use Rattle.spv_builtin.specs.inner.Fronts.{are_results, are_fronts_from, are_fronts}
use Rattle.spv_builtin.proofs.Rows.{is_ascii-is}

text_passes : is_ascii TEXT.now ≡ true
unfolding is_ascii
text_passes = refl

pub text_is : IsAscii TEXT.now
text_is = is_ascii-is TEXT.now text_passes

pub kinds_pass : list_all (passes TEXT.now ENUMERANTS SLOTS NEAR) KINDS ≡ true
unfolding passes never_down first_place are_first find follow cut are_held is_held folding.initial folding.folded_multiply folding.read_u32 folding.read_u64 folding.read_short folding.mix_blocks folding.write
kinds_pass = refl

pub kind_names_pass : find TEXT.now KIND_SLOTS (map (λ (r : KindRow). r.1) KINDS) ≡ true
unfolding find follow cut are_held is_held folding.initial folding.folded_multiply folding.read_u32 folding.read_u64 folding.read_short folding.mix_blocks folding.write
kind_names_pass = refl

pub names_pass : find TEXT.now ENTRY_SLOTS (map (λ (r : EntryRow). r.1) ENTRIES) ≡ true
unfolding find follow cut are_held is_held folding.initial folding.folded_multiply folding.read_u32 folding.read_u64 folding.read_short folding.mix_blocks folding.write
names_pass = refl

sound : list_all (is_sound built_in) built_in.kinds ≡ true
unfolding built_in
sound = refl

apart : list_all (has_other_parts built_in) built_in.kinds ≡ true
unfolding built_in
apart = refl

count : nat_lt (length built_in.kinds) 4294967296 ≡ true
unfolding built_in
count = refl

pub whole : IsWhole built_in
whole = record { sound = sound; count = ltb-true _ _ count; apart = apart }

pub results_pass : are_results built_in built_in.entries RESULTS ≡ true
unfolding built_in are_results
results_pass = refl

pub fronts_pass : are_fronts built_in FRONTS ≡ true
unfolding built_in are_fronts are_fronts_from
fronts_pass = refl

pub counted : are_counted ITEMS ENTRIES ≡ true
unfolding are_counted
counted = refl

few_entries : nat_lt (length ENTRIES) 4294967296 ≡ true
few_entries = refl

pub entries_few : length ENTRIES < 4294967296
entries_few = ltb-true _ _ few_entries

pub entries_rise : rise 0 (map (λ (r : EntryRow). r.0) ENTRIES) ≡ true
unfolding rise
entries_rise = refl

pub places_made : PLACES ≡ fill 0 0 (map (λ (r : EntryRow). r.0) ENTRIES)
unfolding fill
places_made = refl

pub forms_made : FORMS ≡ map form_of built_in.kinds
unfolding built_in
forms_made = refl
