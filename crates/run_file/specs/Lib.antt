-- Document 01, run file.
-- Behind the contract: numbers in bytes; a file's table, its checks in their order, and its run; the text of an answer; what the program prints.
pub mod Bytes
pub mod File
pub mod Text
pub mod Program
-- Closed cases: P12's file and text; where 15 stands in the order, the text of numbers, and a time whose number is not finite.
pub mod P12
pub mod Cases
-- Laws: a number read byte by byte; the table, and the sizes of a file that passes; text written word by word, digit by digit and line by line;
-- the run that the code makes of a file, and its text.
pub mod LittleEndian
pub mod Table
pub mod Appended
pub mod Digits
pub mod Lines
pub mod FileRun
