-- Worked examples, computed: 212 F is 100 C, 32 F is +0 C, 98.6 F (as an f32) is 37 C exactly, 0 F, the largest f32 overflows, 127 / 128, 1 / 3. Assumes nothing.
use mathlib.Core.Path.{◌≡◌, refl}
use Rattle.log_binary32.specs.Binary32.{field_units, digits_in, pattern_at, rounded, less_thirty_two, minus32, times5, over9, to_celsius, portion}

boiling : to_celsius 0x4354_0000 ≡ 0x42c8_0000
unfolding minus32 less_thirty_two times5 over9 field_units rounded pattern_at digits_in
boiling = refl

freezing : to_celsius 0x4200_0000 ≡ 0
unfolding minus32 less_thirty_two times5 over9 field_units rounded pattern_at digits_in
freezing = refl

fever : to_celsius 0x42c5_3333 ≡ 0x4214_0000
unfolding minus32 less_thirty_two times5 over9 field_units rounded pattern_at digits_in
fever = refl

zero-degrees : to_celsius 0x8000_0000 ≡ 0xc18e_38e4
unfolding minus32 less_thirty_two times5 over9 field_units rounded pattern_at digits_in
zero-degrees = refl

largest : to_celsius 0x7f7f_ffff ≡ 0x7f80_0000
unfolding minus32 less_thirty_two times5 over9 field_units rounded pattern_at digits_in
largest = refl

third : portion 1 3 ≡ 0x3eaa_aaab
unfolding portion rounded pattern_at digits_in
third = refl

nearly : portion 127 128 ≡ 0x3f7e_0000
unfolding portion rounded pattern_at digits_in
nearly = refl
