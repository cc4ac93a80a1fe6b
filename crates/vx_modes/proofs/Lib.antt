mod Commas
